use Rattle.tabled_configuration.proofs.BothLemmas.{on_both, Changes_by_two}
use Rattle.tabled_configuration.proofs.spanned_config.both.SpannedConfig.set_trims.Goals as goal

pub returns-clause-ok : goal.returns-clause-ok
returns-clause-ok c =
    on_both c.insert_both.result (λ first second. Changes_by_two _ _ c.self.inside.characters c.self.inside.colors c.self.inside.settings _ c.args.self.now c.self.view_is (λ i. record c.self.inside.settings { cells = record c.self.inside.settings.cells { trim_horizontal = first i; trim_vertical = second i } }))
    c.insert_both.ensures.ok c.insert_both.ensures.other_ok

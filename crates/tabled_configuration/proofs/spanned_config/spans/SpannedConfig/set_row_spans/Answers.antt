use Rattle.tabled_grid.proofs.Seen.{on_ok}
use Rattle.tabled_configuration.proofs.ConfigurationLemmas.{Changes_by_row_spans}
use Rattle.tabled_configuration.proofs.spanned_config.spans.SpannedConfig.set_row_spans.Goals as goal

pub returns-clause-ok : goal.returns-clause-ok
returns-clause-ok c =
    on_ok c.set_all.result (λ made. Changes_by_row_spans c.args.rows c.args.cells.now c.self.inside.characters c.self.inside.colors c.self.inside.settings _ c.args.self.now c.self.view_is made) c.set_all.ensures.ok

use Rattle.tabled_grid.proofs.Seen.{on_ok}
use Rattle.tabled_configuration.proofs.ConfigurationLemmas.{Changes_by_setting}
use Rattle.tabled_configuration.proofs.spanned_config.spans.SpannedConfig.set_row_span.Goals as goal

pub returns-clause-ok : goal.returns-clause-ok
returns-clause-ok c =
    on_ok c.set.result (λ made. Changes_by_setting _ c.self.inside.characters c.self.inside.colors c.self.inside.settings _ c.args.self.now c.self.view_is (λ i. record c.self.inside.settings { row_spans = made i })) c.set.ensures.ok

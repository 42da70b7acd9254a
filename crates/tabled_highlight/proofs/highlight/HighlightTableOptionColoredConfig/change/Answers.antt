use Rattle.std.proofs.Common.{refl}
use Rattle.tabled_grid.proofs.Seen.{on_ok}
use Rattle.tabled_changes.proofs.ColoredLemmas.{Changes_lent}
use Rattle.tabled_highlight.proofs.Made.{none_in_outline}
use Rattle.tabled_highlight.proofs.highlight.HighlightTableOptionColoredConfig.change.Goals as goal

pub returns-clause-ok : goal.returns-clause-ok
returns-clause-ok g c =
    on_ok c.outline_on.result (λ changes. Changes_lent _ _ c.args.cfg.now _ _ c.config_mut.ensures.value refl (none_in_outline _ _ _ _ _ _) changes)
    c.outline_on.ensures.ok

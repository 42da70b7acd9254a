-- The lists that were written are those of the option, in the table as it looked before.
use Rattle.std.proofs.Common.{refl, ap, ◌∙◌}
use Rattle.tabled_grid.proofs.Seen.{on_ok}
use Rattle.tabled_changes.proofs.ColoredLemmas.{Changes_lent}
use Rattle.tabled_options.proofs.Applying.{none_in_text, read_alike}
use Rattle.tabled_options.proofs.line_text.LineTextTableOptionColoredConfig.change.Goals as goal

pub returns-clause-ok : goal.returns-clause-ok
returns-clause-ok g c =
    on_ok c.apply.result (λ changes. Changes_lent _ _ c.args.cfg.now _ _ c.config_mut.ensures.value
    (read_alike g.Line.NamedLine.line_of _ c.args.self _ _ _ _ _ _ _ _ c.in_ok-characters.ensures (c.line-line.ensures ∙ ap (λ text. g.Line.NamedLine.line_of text.line (c.count_rows.result, c.count_columns.result)) c.self.view_is) refl c.config.ensures (λ i. (c.count_rows.ensures i, c.count_columns.ensures i)))
    (none_in_text _ _ _) changes)
    c.apply.ensures.ok

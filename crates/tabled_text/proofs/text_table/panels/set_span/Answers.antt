-- The span is set in the configuration of the borders, and no color of a cell.
use Rattle.std.proofs.Common.{refl}
use Rattle.tabled_grid.proofs.Seen.{on_ok}
use Rattle.tabled_object.specs.Entities.{position}
use Rattle.tabled_changes.proofs.ColoredLemmas.{Changes_lent}
use Rattle.tabled_configuration.specs.Configuration.{by_column_span}
use Rattle.tabled_text.proofs.text_table.panels.set_span.Goals as goal

pub returns : goal.returns
returns c =
    on_ok c.set_column_span.result (λ changes. Changes_lent (by_column_span (position c.args.row 0, c.args.cols)) (by_column_span (c.new.result, c.args.cols)) c.args.config.now c.config_mut.result.now c.set_column_span.new.self
    c.config_mut.ensures.value (λ i. by_column_span (record { row = c.new.ensures.row i; col = c.new.ensures.col i }, c.args.cols)) refl changes)
    c.set_column_span.ensures.ok

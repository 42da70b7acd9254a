-- The columns of numbers are found, and then set.
use Rattle.std.proofs.Common.{◌≡◌, ap, drop, filter, subst, ◌∙◌}
use Rattle.tabled_object.specs.Entities.{below}
use Rattle.tabled_grid.proofs.Seen.{on_ok}
use Rattle.tabled_changes.proofs.ColoredLemmas.{Changes_lent}
use Rattle.tabled_configuration.specs.Colored.{Changes}
use Rattle.tabled_numbers.specs.Columns.{is_numeric}
use Rattle.tabled_measure.specs.Numeric.{at_right, numeric_columns}
use Rattle.tabled_text.specs.TextTable.{Drawing}
use Rattle.tabled_measure.proofs.NumericLemmas.{none_colored}
use Rattle.tabled_text.proofs.table.Table.align_numbers.Goals as goal

pub returns-clause-config : goal.returns-clause-config
returns-clause-config g c =
    let columns = numeric_columns c.args.headings c.args.self.now.texts in
    let found : c.deref.result.now ≡ columns =
    c.deref.ensures.value ∙ c.in_ok-columns.ensures ∙ (λ i. filter (is_numeric (drop c.args.headings (c.texts.ensures i))) (below (c.shape.ensures i).cols)) in
    on_ok c.set_at_right.result (λ changes.
    subst (λ old. Changes (at_right columns) old (record { spanned = c.set_at_right.new.cfg; cell_colors = c.deref_mut.result.now.cell_colors }))
    (c.deref_mut.ensures.value ∙ ap (λ (drawing : Drawing). drawing.config) c.self.view_is)
    (Changes_lent _ _ c.deref_mut.result.now _ _ c.config_mut.ensures.value (ap at_right found) (none_colored columns) changes))
    c.set_at_right.ensures.ok

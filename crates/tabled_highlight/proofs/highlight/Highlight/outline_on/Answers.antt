-- The entities that were listed cover what the listing covers.
use Rattle.std.proofs.Common.{ap, subst, ◌&&◌, ◌∙◌}
use Rattle.tabled_object.specs.Entities.{is_inside}
use Rattle.tabled_grid.proofs.Seen.{on_ok}
use Rattle.tabled_configuration.specs.Configuration.{Changes}
use Rattle.tabled_highlight.specs.Highlighting.{Highlighting, highlight_events}
use Rattle.tabled_highlight.proofs.Made.{same_events}
use Rattle.tabled_highlight.proofs.highlight.Highlight.outline_on.Goals as goal

pub returns-clause-ok : goal.returns-clause-ok
returns-clause-ok g c =
    let rows = g.R.ExactRecords.row_count c.args.records.now in
    let cols = g.R.Records.column_count c.args.records.now in
    let inside = c.self.inside in
    let keys = c.in_ok-entities.entities.keys in
    let listing = g.O.Object.listing inside.target rows cols in
    on_ok c.outline_cells.result (subst (λ es. Changes es c.args.config.now c.outline_cells.new.config)
    ((λ i. highlight_events (c.count_rows.ensures i, c.count_columns.ensures i) keys (c.as_ref.ensures.value i) (c.as_ref-2.ensures.value i) (c.as_ref-3.ensures.value i))
    ∙ same_events keys listing rows cols inside.border inside.diagonal inside.color (λ pos. ap (λ b. is_inside rows cols pos && b) (c.in_ok-entities.ensures pos))
    ∙ ap (λ (given : Highlighting g.row.O.Denot). highlight_events (rows, cols) (g.O.Object.listing given.target rows cols) given.border given.diagonal given.color) c.self.view_is))
    c.outline_cells.ensures.ok

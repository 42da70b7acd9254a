use Rattle.std.proofs.Common.{Bool, ◌+◌, ◌==◌, ◌&&◌, ◌∙◌, nat_lt}
use Rattle.tabled_object.specs.declared.position.Position.{Position}
use Rattle.tabled_layout.specs.Spans.{SpanEvent}
use Rattle.tabled_layout.specs.Covering.{within_rows}
use Rattle.tabled_correction.proofs.CoveredLemmas.{span_added, all_added, no_cells, of_entries, in_column}
use Rattle.tabled_correction.proofs.covered.covered_in_columns.Goals as goal

abbrev test : SpanEvent → Position → Bool
test span cell = (cell.col == span.0.col) && within_rows span cell

pub loop-position-init : goal.loop-position-init
loop-position-init c = no_cells c.args.shape test c.new-cells.result.keys c.into_iter-position-iterator.result c.args.rows.now.entries c.new-cells.ensures.empty c.into_iter-position-iterator.ensures.into_iter_gives.0

pub loop-position-preserved : goal.loop-position-preserved
loop-position-preserved c =
    span_added c.args.shape test c.args.rows.now.entries c.loop-position.position-iterator c.next.new.self (c.in-Some.position.now, c.in-Some.count.now) c.loop-position.cells.keys c.add_rectangle.new.cells.keys _
    c.loop-position.invariant c.in-Some.ensures.steps c.in_ok-add_rectangle.ensures
    (λ cell. (λ i. c.after-down.ensures cell.row i && c.only.ensures cell.col i) ∙ in_column (cell.col == c.in-Some.position.now.col) (nat_lt cell.row c.args.shape.0) (nat_lt c.in-Some.position.now.row cell.row) (nat_lt cell.row (c.in-Some.position.now.row + c.in-Some.count.now)) (nat_lt cell.col c.args.shape.1))

pub returns : goal.returns
returns c =
    of_entries c.loop-position.cells.keys c.args.shape test c.args.rows.now.entries c.into_iter-position-iterator.ensures.into_iter_gives.5
    (all_added c.args.shape test c.args.rows.now.entries c.loop-position.position-iterator c.loop-position.cells.keys c.loop-position.invariant c.in-None.ensures.steps.0)

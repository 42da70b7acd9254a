use Rattle.std.proofs.Common.{Bool, List, ◌+◌, ◌&&◌, ◌∙◌, nat_lt, sym, ap, unwrap_or}
use Rattle.std.specs.FinMap as map
use Rattle.tabled_object.specs.declared.position.Position.{Position}
use Rattle.tabled_object.specs.contracts.position.PositionOrd.TheImpl.Laws.{total-law}
use Rattle.tabled_kept.specs.Table.{table}
use Rattle.tabled_kept.proofs.Tables.{get-table}
use Rattle.tabled_layout.specs.Spans.{SpanEvent, position_cmp}
use Rattle.tabled_layout.specs.Covering.{within_columns, within_its_rows}
use Rattle.tabled_layout.proofs.SpanLemmas.{positions_apart}
use Rattle.tabled_correction.proofs.CoveredLemmas.{span_added, all_added, no_cells, of_entries, in_both}
use Rattle.tabled_correction.proofs.covered.covered_by_both.Goals as goal

abbrev test : List SpanEvent → SpanEvent → Position → Bool
test rows span cell = within_columns span cell && within_its_rows (table position_cmp rows) span.0 cell

pub loop-position-init : goal.loop-position-init
loop-position-init c = no_cells c.args.shape (test c.args.rows.now.entries) c.new-cells.result.keys c.into_iter-position-iterator.result c.args.columns.now.entries c.new-cells.ensures.empty c.into_iter-position-iterator.ensures.into_iter_gives.0

pub loop-position-preserved : goal.loop-position-preserved
loop-position-preserved c =
    span_added c.args.shape (test c.args.rows.now.entries) c.args.columns.now.entries c.loop-position.position-iterator c.next.new.self (c.in-Some.position.now, c.in-Some.count.now) c.loop-position.cells.keys c.add_rectangle.new.cells.keys _
    c.loop-position.invariant c.in-Some.ensures.steps c.in_ok-add_rectangle.ensures
    (λ cell. (λ i. c.after-down.ensures cell.row i && c.after-across.ensures cell.col i)
    ∙ ap (λ height. ((nat_lt c.in-Some.position.now.row cell.row && nat_lt cell.row (c.in-Some.position.now.row + height)) && nat_lt cell.row c.args.shape.0) && ((nat_lt c.in-Some.position.now.col cell.col && nat_lt cell.col (c.in-Some.position.now.col + c.in-Some.count.now)) && nat_lt cell.col c.args.shape.1))
    (c.unwrap_or-height.ensures ∙ ap (λ o. unwrap_or o 0) (c.copied.ensures ∙ c.get.ensures.value ∙ sym (get-table total-law positions_apart c.args.rows.now.entries c.in-Some.position.now)))
    ∙ in_both (nat_lt c.in-Some.position.now.row cell.row) (nat_lt cell.row (c.in-Some.position.now.row + unwrap_or (map.get (table position_cmp c.args.rows.now.entries) c.in-Some.position.now) 0)) (nat_lt cell.row c.args.shape.0) (nat_lt c.in-Some.position.now.col cell.col) (nat_lt cell.col (c.in-Some.position.now.col + c.in-Some.count.now)) (nat_lt cell.col c.args.shape.1))

pub returns : goal.returns
returns c =
    of_entries c.loop-position.cells.keys c.args.shape (test c.args.rows.now.entries) c.args.columns.now.entries c.into_iter-position-iterator.ensures.into_iter_gives.5
    (all_added c.args.shape (test c.args.rows.now.entries) c.args.columns.now.entries c.loop-position.position-iterator c.loop-position.cells.keys c.loop-position.invariant c.in-None.ensures.steps.0)

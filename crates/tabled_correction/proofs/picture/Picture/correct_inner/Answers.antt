use Rattle.std.proofs.Common.{◌++◌, refl, ap, ◌∙◌, flat_map}
use Rattle.tabled_object.specs.Entities.{is_inside}
use Rattle.tabled_layout.specs.Covering.{covered_by_both_spans}
use Rattle.tabled_correction.specs.Correction.{inner_step}
use Rattle.tabled_correction.specs.Picture.{pictured}
use Rattle.tabled_correction.proofs.Adding.{one_less, none_left}
use Rattle.tabled_correction.proofs.CoveredLemmas.{all_inside, rest_inside, next_inside, row_inside, col_inside}
use Rattle.tabled_correction.proofs.InOrder.{those_in_order}
use Rattle.tabled_correction.proofs.picture.Picture.correct_inner.Goals as goal

pub loop-cell-init : goal.loop-cell-init
loop-cell-init c =
    let table = c.args.self.now in (
      all_inside table.covered.by_both.keys c.into_iter-cell-iterator.result table.shape (covered_by_both_spans table.cfg.now.settings.column_spans table.cfg.now.settings.row_spans) table.by_both c.into_iter-cell-iterator.ensures.into_iter_gives.0,
      refl,
    )

pub add_inner-requires-clause-row : goal.add_inner-requires-clause-row
add_inner-requires-clause-row c =
    let shape = c.args.self.now.shape in
    row_inside shape.0 shape.1 c.in-Some.cell.now (next_inside c.loop-cell.cell-iterator c.next.new.self c.in-Some.cell.now (is_inside shape.0 shape.1) c.in-Some.ensures.steps c.loop-cell.invariant.0)

pub add_inner-requires-clause-col : goal.add_inner-requires-clause-col
add_inner-requires-clause-col c =
    let shape = c.args.self.now.shape in
    col_inside shape.0 shape.1 c.in-Some.cell.now (next_inside c.loop-cell.cell-iterator c.next.new.self c.in-Some.cell.now (is_inside shape.0 shape.1) c.in-Some.ensures.steps c.loop-cell.invariant.0)

pub loop-cell-preserved : goal.loop-cell-preserved
loop-cell-preserved c =
    let shape = c.args.self.now.shape in (
      rest_inside c.loop-cell.cell-iterator c.next.new.self c.in-Some.cell.now (is_inside shape.0 shape.1) c.in-Some.ensures.steps c.loop-cell.invariant.0,
      one_less (inner_step (pictured c.args.self.now)) c.in-Some.cell.now c.into_iter-cell-iterator.result c.loop-cell.cell-iterator c.next.new.self c.args.writes.now.items c.loop-cell.writes.items c.add_inner.new.writes.items
          c.loop-cell.invariant.1 c.in-Some.ensures.steps c.in_ok-add_inner.ensures,
    )

pub returns : goal.returns
returns c =
    let table = c.args.self.now in
    none_left (inner_step (pictured table)) c.into_iter-cell-iterator.result c.loop-cell.cell-iterator c.args.writes.now.items c.loop-cell.writes.items c.loop-cell.invariant.1 c.in-None.ensures.steps.0
    ∙ ap (λ all. c.args.writes.now.items ++ flat_map (inner_step (pictured table)) all)
    (c.into_iter-cell-iterator.ensures.into_iter_gives.0
    ∙ those_in_order table.covered.by_both.keys table.shape (covered_by_both_spans table.cfg.now.settings.column_spans table.cfg.now.settings.row_spans) c.into_iter-cell-iterator.ensures.into_iter_gives.4 table.by_both)

-- A cell and a side more.
use Rattle.std.proofs.Common.{◌≡◌, ℕ, ◌+◌, ◌++◌, [], map, slice_index_or, subst, ◌∙◌, arith}
use Rattle.std.specs.List.{flat_map}
use Rattle.tabled_object.specs.Entities.{below}
use Rattle.tabled_painting.specs.InColor.{Paints}
use Rattle.tabled_painting.specs.Painted.{Painted}
use Rattle.tabled_painting.specs.PaintedTable.{painted_side}
use Rattle.tabled_painting.specs.Rows.{row_cell}
use Rattle.tabled_painting.specs.Viewed.{viewed}
use Rattle.tabled_painting.proofs.FrameLemmas.{cell_then_side, shown_at, side_is}
use Rattle.tabled_painting.proofs.table_lines.TableLines.paint_low.Goals as goal

pub loop-col-preserved : goal.loop-col-preserved
loop-col-preserved g c =
    let lines = c.args.self.now in
    let view = viewed lines.frame in
    let n = c.loop-col.col in
    let text = c.as_str.ensures ∙ shown_at g.T.AsStr.text c.args.texts.now n c.index-texts-col.result [] c.loop-col-test.true c.index-texts-col.is in
    let cell : ℕ → Painted = λ k. row_cell lines c.args.row k (slice_index_or (map g.T.AsStr.text c.args.texts.now) k []) 0 in
    cell_then_side g.O.Output.gains g.met.O.Output.gains_both (painted_side view c.args.row 0) cell n _ _ _ _ _
    (λ i. row_cell lines (c.new-position.ensures.row i) (c.new-position.ensures.col i) (text i) 0) (side_is view c.args.row 0 (n + 1) _ c.side-side.ensures)
    c.loop-col.invariant c.in_ok-paint_cell.ensures

pub returns : goal.returns
returns g c =
    let lines = c.args.self.now in
    let view = viewed lines.frame in
    let all : c.loop-col.col ≡ view.shape.1 = (let counted = c.requires.texts in omega (arith, c.loop-col-test.false, c.loop-col.auto.col-end, counted)) in
    subst (λ n. Paints g.O.Output.gains (flat_map (λ k. painted_side view c.args.row 0 k ++ row_cell lines c.args.row k (slice_index_or (map g.T.AsStr.text c.args.texts.now) k []) 0) (below n) ++ painted_side view c.args.row 0 n)
    c.args.painter.now c.loop-col.painter) all c.loop-col.invariant

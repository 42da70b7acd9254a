-- A bare cell, in the color of its row, and any other; and what stands after it.
use Rattle.std.proofs.Common.{◌++◌, ◌∙◌, Option, slice_index, option_copied, option_map, sym, subst}
use Rattle.std.specs.Prelude.{IfSome}
use denote.Ref.{Bor}
use Rattle.tabled_border.specs.Texts.{Texts}
use Rattle.tabled_cells.specs.Placements.{placement_at}
use Rattle.tabled_printing.specs.Marks.{mark_of}
use Rattle.tabled_painting.specs.InColor.{Paints}
use Rattle.tabled_painting.specs.Painted.{Painted, paint}
use Rattle.tabled_painting.specs.CellLines.{coloring_at}
use Rattle.tabled_painting.specs.BareCells.{IsBareIn, bare_text}
use Rattle.tabled_painting.specs.PaintedTable.{side_painted}
use Rattle.tabled_painting.specs.Rows.{row_cell}
use Rattle.tabled_painting.proofs.BareLemmas.{bare_shown, stands_at}
use Rattle.tabled_painting.proofs.PainterLemmas.{on_done, paints_as, paints_both, paints_same}
use Rattle.tabled_painting.proofs.table_lines.TableLines.paint_cell.Goals as goal

pub returns : goal.returns
returns g c =
    let lines = c.args.self.now in
    let settings = lines.frame.cfg.now.settings.cells in
    let row = c.args.position.row in
    let col = c.args.position.col in
    let text = c.args.text.now in
    let how = placement_at settings row col in
    let color : Option Texts = option_copied c.in-Some.color in
    let coloring = coloring_at settings lines.colors.now row col in
    let width = slice_index lines.frame.dims.now.widths.items col in
    let height = slice_index lines.frame.dims.now.heights.items row in
    let is : IsBareIn lines.frame.with_colors settings lines.colors.now row col color =
    subst (λ (found : Option (Option (Bor Texts))). IfSome found (λ shade. IsBareIn lines.frame.with_colors settings lines.colors.now row col (option_copied shade))) c.in-Some.is c.cell_color.ensures in
    let side : Painted = side_painted (option_map mark_of c.args.side) in
    on_done c.push_bare.result c.push_bare.ensures (λ painted.
    paints_as g.O.Output.gains (paint color (bare_text how.alignment_horizontal width text)) (row_cell lines row col text 0) side c.args.painter.now c.push_bare.new.self
    (bare_shown how is.bare width height c.requires.low text (sym c.is_printable.ensures ∙ c.if-is_printable.true) c.args.painter.now.with_colors color coloring
    (λ wanted. is.in_color (sym c.requires.colors ∙ wanted)))
    (subst (λ shown. Paints g.O.Output.gains (paint color shown ++ side) c.args.painter.now c.push_bare.new.self)
    (λ i. bare_text (stands_at settings row col _ c.get_alignment_horizontal-alignment.ensures i) (c.get_width-width.ensures i) text) painted))

pub returns-2 : goal.returns-2
returns-2 g c =
    on_done c.push_side.result c.push_side.ensures (λ painted.
    paints_both g.O.Output.gains g.met.O.Output.gains_both _ _ c.args.painter.now c.paint_line.new.painter _
    (paints_same g.O.Output.gains _ _ c.args.painter.now c.paint_line.new.painter (c.own_cell-cell.ensures 0) c.in_ok-paint_line.ensures.painted) painted)

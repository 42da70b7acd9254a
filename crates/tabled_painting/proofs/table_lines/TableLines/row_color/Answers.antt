-- That of the first cell of the row.
use Rattle.tabled_painting.proofs.BareLemmas.{bare_row}
use Rattle.tabled_painting.proofs.table_lines.TableLines.row_color.Goals as goal

pub returns-then-is_row_alike-2 : goal.returns-then-is_row_alike-2
returns-then-is_row_alike-2 c =
    let lines = c.args.self.now in
    bare_row lines.frame.with_colors lines.frame.cfg.now.settings.cells lines.colors.now c.new.result.row c.new.result.col c.args.row c.cell_color.result
    (c.is_row_alike.ensures.alike c.if-is_row_alike.true) (c.is_row_alike-then-is_row_alike.ensures.alike c.if-is_row_alike-2.true) c.new.ensures.row c.new.ensures.col c.cell_color.ensures

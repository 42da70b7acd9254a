-- One cell more is put.
use Rattle.std.proofs.Common.{◌++◌, map, string_bytes, ap, ◌∙◌}
use Rattle.tabled_markdown.specs.Source.{escaped}
use Rattle.tabled_markdown.specs.Table.{cell, in_cell}
use Rattle.tabled_markdown.proofs.Lines.{cells_more}
use Rattle.tabled_markdown.proofs.table.put_row.Goals as goal

pub loop-col-preserved : goal.loop-col-preserved
loop-col-preserved g c =
    cells_more escaped (cell (map g.T.AsStr.text c.args.cells.now)) (string_bytes c.push.new.self) _ _ c.loop-col.col
    (c.in_ok-put_cell.ensures ∙ ap (λ text. string_bytes c.loop-col.text ++ in_cell (escaped text)) c.text_of.ensures) c.loop-col.invariant

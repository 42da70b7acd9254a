-- One word more is put.
use Rattle.std.proofs.Common.{◌++◌, string_bytes, ap, ◌∙◌}
use Rattle.tabled_markdown.specs.Table.{delimiter, in_cell, side}
use Rattle.tabled_markdown.proofs.Lines.{cells_more}
use Rattle.tabled_markdown.proofs.table.put_sides.Goals as goal

pub loop-col-preserved : goal.loop-col-preserved
loop-col-preserved c =
    cells_more delimiter (side c.args.sides.now) (string_bytes c.push.new.self) _ _ c.loop-col.col
    (c.in_ok-put_side.ensures ∙ ap (λ each. string_bytes c.loop-col.text ++ in_cell (delimiter each)) c.side_of.ensures) c.loop-col.invariant

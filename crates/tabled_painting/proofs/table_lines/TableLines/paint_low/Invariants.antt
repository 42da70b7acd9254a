-- The sides and cells so far, and the side after them.
use Rattle.std.proofs.Common.{◌++◌, [], map, slice_index_or}
use Rattle.std.specs.List.{flat_map}
use Rattle.tabled_object.specs.Entities.{below}
use Rattle.tabled_painting.specs.InColor.{Paints}
use Rattle.tabled_painting.specs.PaintedTable.{painted_side}
use Rattle.tabled_painting.specs.Rows.{row_cell}
use Rattle.tabled_painting.specs.Viewed.{viewed}
use Rattle.tabled_painting.proofs.table_lines.TableLines.paint_low.Given as goal

abbrev pub invariant-loop-col : goal.invariant-loop-col
invariant-loop-col g l =
    Paints g.O.Output.gains (flat_map (λ c. painted_side (viewed l.self.frame) l.row 0 c ++ row_cell l.self l.row c (slice_index_or (map g.T.AsStr.text l.texts) c []) 0) (below l.col) ++ painted_side (viewed l.self.frame) l.row 0 l.col)
    l.fn.painter l.painter

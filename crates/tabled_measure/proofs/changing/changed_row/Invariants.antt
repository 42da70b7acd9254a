-- The cells so far.
use Rattle.std.proofs.Common.{◌≡◌, map, string_bytes}
use Rattle.tabled_object.specs.Entities.{below}
use Rattle.tabled_measure.specs.Sizes.{cell}
use Rattle.tabled_measure.proofs.changing.changed_row.Given as goal

abbrev pub invariant-loop-col : goal.invariant-loop-col
invariant-loop-col g l = map string_bytes l.found.items ≡ map (λ col. g.C.Change.change l.change l.row col (cell (map g.T.AsStr.text l.cells) col)) (below l.col)

-- How wide the texts so far make the column.
use Rattle.std.proofs.Common.{◌≡◌, map, take, string_bytes}
use Rattle.tabled_cells.specs.Placed.{greatest}
use Rattle.tabled_measure.specs.Sizes.{width_asked}
use Rattle.tabled_measure.proofs.measure.width_of_texts.Given as goal

abbrev pub invariant-loop-text : goal.invariant-loop-text
invariant-loop-text l = l.width ≡ greatest (map width_asked (map string_bytes (take l.text-index l.column)))

-- The words so far are put.
use Rattle.std.proofs.Common.{◌≡◌, ◌++◌, map, string_bytes}
use Rattle.std.specs.List.{flat_map}
use Rattle.tabled_markdown.specs.Table.{delimiter, fitted_sides, in_cell}
use Rattle.tabled_markdown.proofs.table.put_sides.Given as goal

abbrev pub invariant-loop-col : goal.invariant-loop-col
invariant-loop-col l = string_bytes l.text ≡ string_bytes l.initial.text ++ flat_map in_cell (map delimiter (fitted_sides l.col l.sides))

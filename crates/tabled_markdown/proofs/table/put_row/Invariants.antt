-- The cells so far are put.
use Rattle.std.proofs.Common.{◌≡◌, ◌++◌, map, string_bytes}
use Rattle.std.specs.List.{flat_map}
use Rattle.tabled_markdown.specs.Source.{escaped}
use Rattle.tabled_markdown.specs.Table.{fitted, in_cell}
use Rattle.tabled_markdown.proofs.table.put_row.Given as goal

abbrev pub invariant-loop-col : goal.invariant-loop-col
invariant-loop-col g l = string_bytes l.text ≡ string_bytes l.initial.text ++ flat_map in_cell (map escaped (fitted l.col (map g.T.AsStr.text l.cells)))

-- The lines so far are put.
use Rattle.std.proofs.Common.{◌≡◌, ◌++◌, ◌∷◌, map, take, string_bytes}
use Rattle.std.specs.List.{flat_map}
use Rattle.tabled_markdown.specs.Table.{row_line}
use Rattle.tabled_markdown.proofs.table.put_rows.Given as goal

abbrev pub invariant-loop-row : goal.invariant-loop-row
invariant-loop-row g l = string_bytes l.text ≡ string_bytes l.initial.text ++ flat_map (λ row. 10 ∷ row_line l.count (map g.T.AsStr.text row.items)) (take l.row-index l.rows)

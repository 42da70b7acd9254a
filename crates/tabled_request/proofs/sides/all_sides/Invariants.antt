-- The columns so far.
use Rattle.std.proofs.Common.{◌≡◌, map, string_bytes}
use Rattle.std.specs.List.{range_with_len}
use Rattle.tabled_request.specs.Sides.{side_of}
use Rattle.tabled_request.proofs.sides.all_sides.Given as goal

abbrev pub invariant-loop-col : goal.invariant-loop-col
invariant-loop-col g l = l.all.items ≡ map (side_of l.request (map string_bytes l.words) (map (λ row. map g.T.AsStr.text row.items) l.rows)) (range_with_len 0 l.col)

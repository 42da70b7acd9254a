-- The lines of the rows so far.
use Rattle.std.proofs.Common.{◌≡◌, ◌+◌, ◌≤◌, false, map, slice_index, slice_index_or}
use Rattle.std.specs.List.{range_with_len}
use Rattle.tabled_rooms.specs.Rooms.{first_line}
use Rattle.tabled_rooms.proofs.lines.first_lines.Given as goal

abbrev pub invariant-loop-row : goal.invariant-loop-row
invariant-loop-row l = record {
  so_far : l.lines.items ≡ map (first_line (slice_index l.heights) (λ r. slice_index_or l.drawn r false)) (range_with_len 0 (l.row + 1));
  last : l.next ≡ first_line (slice_index l.heights) (λ r. slice_index_or l.drawn r false) l.row;
  within : l.next ≤ 18446744073709551615;
}

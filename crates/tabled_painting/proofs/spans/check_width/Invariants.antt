-- The columns so far.
use Rattle.std.proofs.Common.{◌≡◌, ◌+◌, ◌≤◌, false, slice_index, slice_index_or}
use Rattle.std.specs.List.{range_with_len, sum_by}
use Rattle.tabled_rooms.specs.Rooms.{one_if}
use Rattle.tabled_painting.specs.Pages.{most}
use Rattle.tabled_painting.proofs.spans.check_width.Given as goal

abbrev pub invariant-loop-col : goal.invariant-loop-col
invariant-loop-col l = record {
  sum : l.total ≡ sum_by (λ c. one_if (slice_index_or l.sides c false) + slice_index l.widths c) (range_with_len 0 l.col);
  within : l.total ≤ most;
}

-- The largest block of the lines from below so far, and the fewest words of one of them.
use Rattle.std.proofs.Common.{◌≡◌, ◌-◌, ◌<◌, ◌≤◌, drop, length}
use Rattle.tabled_input.specs.Spaced.{fewest, largest}
use Rattle.tabled_input.proofs.blocks.largest.Given as goal

abbrev pub invariant-loop-below : goal.invariant-loop-below
invariant-loop-below l = record {
  best : l.best ≡ largest (drop (length l.counts - l.below) l.counts);
  width : 0 < l.below → l.width ≡ fewest (drop (length l.counts - l.below) l.counts);
  start : l.below ≡ 0 → l.width ≡ 18446744073709551615;
  within : l.best.height ≤ l.below;
}

-- There is room for the cap, but for the least, and none for the other.
use Rattle.std.proofs.Common.{◌≡◌, ◌⊎◌, ◌-◌, ◌<◌, ◌≤◌}
use Rattle.tabled_width.specs.Shares.{used}
use Rattle.tabled_width.proofs.shares.cap_of.Given as goal

abbrev pub invariant-loop-too_great : goal.invariant-loop-too_great
invariant-loop-too_great l = record {
  some : l.least ≤ l.cap;
  below : l.cap ≤ l.too_great;
  fits : (l.cap ≡ l.least) ⊎ (used l.cap l.asked ≤ l.room);
  over : l.room < used l.too_great l.asked;
}

abbrev pub decreases-loop-too_great : goal.decreases-loop-too_great
decreases-loop-too_great l = l.too_great - l.cap

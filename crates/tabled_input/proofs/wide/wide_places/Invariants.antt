-- The places so far, and whether blanks alone are the last character and the last two.
use Rattle.std.proofs.Common.{◌≡◌, ◌-◌, chars, drop, length, take}
use Rattle.std.specs.List.{filter, list_all, range_with_len}
use Rattle.tabled_input.specs.Spaced.{begins_wide, is_blank}
use Rattle.tabled_input.proofs.wide.wide_places.Given as goal

abbrev pub invariant-loop-place : goal.invariant-loop-place
invariant-loop-place l = record {
  places : l.places.items ≡ filter (begins_wide (chars l.line)) (range_with_len 0 (length l.yielded));
  blank : l.after_blank ≡ list_all is_blank (drop (length l.yielded - 1) (take (length l.yielded) (chars l.line)));
  gap : l.after_gap ≡ list_all is_blank (drop (length l.yielded - 2) (take (length l.yielded) (chars l.line)));
}

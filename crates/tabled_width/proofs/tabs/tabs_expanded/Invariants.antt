-- What is written, and the lines that are left.
use Rattle.std.proofs.Common.{◌≡◌, ◌==◌, ◌++◌, map, length, string_bytes}
use Rattle.std.specs.List.{slice_split, join_with_byte}
use denote.Text.{Utf8}
use denote.Shadow.{shadow}
use Rattle.tabled_width.specs.Texts.{pieces}
use Rattle.tabled_width.specs.Tabs.{at_stops}
use Rattle.tabled_width.proofs.tabs.tabs_expanded.Given as goal

abbrev pub invariant-loop-line : goal.invariant-loop-line
invariant-loop-line l = record {
  text : shadow (Utf8 l.rest);
  changed : string_bytes l.out ++ join_with_byte 10 (map (λ line. at_stops l.every (slice_split (λ byte. byte == 9) line)) (pieces l.rest))
      ≡ join_with_byte 10 (map (λ line. at_stops l.every (slice_split (λ byte. byte == 9) line)) (pieces l.text));
}

abbrev pub decreases-loop-line : goal.decreases-loop-line
decreases-loop-line l = length l.rest

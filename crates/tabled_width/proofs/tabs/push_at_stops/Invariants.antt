-- What is written, and the texts between tabs that are left.
use Rattle.std.proofs.Common.{◌≡◌, ◌==◌, ◌++◌, length, string_bytes}
use Rattle.std.specs.List.{slice_split}
use denote.Text.{Utf8}
use denote.Shadow.{shadow}
use Rattle.tabled_width.specs.Tabs.{at_stops}
use Rattle.tabled_width.proofs.tabs.push_at_stops.Given as goal

abbrev pub invariant-loop-text : goal.invariant-loop-text
invariant-loop-text l = record {
  text : shadow (Utf8 l.rest);
  filled : string_bytes l.out ++ at_stops l.every (slice_split (λ byte. byte == 9) l.rest)
      ≡ string_bytes l.initial.out ++ at_stops l.every (slice_split (λ byte. byte == 9) l.line);
}

abbrev pub decreases-loop-text : goal.decreases-loop-text
decreases-loop-text l = length l.rest

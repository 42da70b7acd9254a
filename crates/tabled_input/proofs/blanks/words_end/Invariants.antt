-- As many blanks stand behind the place as were passed.
use Rattle.std.proofs.Common.{◌≡◌, ◌+◌, ◌<◌, ◌≤◌, true, length, slice_index, take}
use Rattle.std.specs.List.{suffix_len}
use Rattle.tabled_input.specs.Spaced.{is_blank}
use Rattle.tabled_input.proofs.blanks.words_end.Given as goal

abbrev pub invariant-loop-end : goal.invariant-loop-end
invariant-loop-end l = record {
  within : l.end ≤ length l.line;
  passed : l.end + suffix_len is_blank l.line ≡ length l.line + suffix_len is_blank (take l.end l.line);
  blank : l.end < length l.line → is_blank (slice_index l.line l.end) ≡ true;
}

abbrev pub decreases-loop-end : goal.decreases-loop-end
decreases-loop-end l = l.end

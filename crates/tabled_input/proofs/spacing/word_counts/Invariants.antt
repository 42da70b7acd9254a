-- The lines that were cut off so far gave their counts.
use Rattle.std.proofs.Common.{◌≡◌, not, map}
use Rattle.std.specs.List.{filter, list_all}
use Rattle.tabled_input.specs.Spaced.{is_blank, word_count}
use Rattle.tabled_input.proofs.spacing.word_counts.Given as goal

abbrev pub invariant-loop-line : goal.invariant-loop-line
invariant-loop-line l = l.counts.items ≡ map word_count (filter (λ line. not (list_all is_blank line)) (map (λ line. line.now) l.yielded))

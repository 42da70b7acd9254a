-- The lines that were cut off so far begin there, or do not.
use Rattle.std.proofs.Common.{◌≡◌, not, map}
use Rattle.std.specs.List.{filter, list_all}
use Rattle.tabled_input.specs.Spaced.{begin_at, is_blank}
use Rattle.tabled_input.proofs.wide.all_begin_at.Given as goal

abbrev pub invariant-loop-line : goal.invariant-loop-line
invariant-loop-line l = l.all ≡ list_all (begin_at l.places) (filter (λ line. not (list_all is_blank line)) (map (λ line. line.now) l.yielded))

-- The lines that were cut off so far gave their rows.
use Rattle.std.proofs.Common.{◌≡◌, ◌==◌, not, length, map}
use Rattle.std.specs.List.{filter}
use Rattle.tabled_input.specs.Lines.{cells_of, cut_at}
use Rattle.tabled_input.proofs.lines.separated.Given as goal

abbrev pub invariant-loop-line : goal.invariant-loop-line
invariant-loop-line l = cells_of l.rows.items ≡ map (cut_at l.separator) (filter (λ line. not (length line == 0)) (map (λ line. line.now) l.yielded))

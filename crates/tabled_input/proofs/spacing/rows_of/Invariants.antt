-- The lines that were cut off so far gave their rows.
use Rattle.std.proofs.Common.{◌≡◌, not, map}
use Rattle.std.specs.List.{filter, list_all}
use Rattle.tabled_input.specs.Lines.{cells_of}
use Rattle.tabled_input.specs.Spaced.{cells_of_line, is_blank}
use Rattle.tabled_input.proofs.spacing.rows_of.Given as goal

abbrev pub invariant-loop-line : goal.invariant-loop-line
invariant-loop-line l = cells_of l.rows.items ≡ map (cells_of_line l.is_wide l.columns) (filter (λ line. not (list_all is_blank line)) (map (λ line. line.now) l.yielded))

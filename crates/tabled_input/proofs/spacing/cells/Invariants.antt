-- The cells so far, and those that the rest is cut into.
use Rattle.std.proofs.Common.{◌≡◌, ◌-◌, ◌++◌, map}
use Rattle.std.specs.Str.{IsUtf8}
use Rattle.tabled_input.specs.Spaced.{cells_of_line}
use Rattle.tabled_input.proofs.spacing.cells.Given as goal

abbrev pub invariant-loop-done : goal.invariant-loop-done
invariant-loop-done l = record {
  cut : map (λ cell. cell.now) l.cells.items ++ cells_of_line l.is_wide (l.columns - l.done) l.rest ≡ cells_of_line l.is_wide l.columns l.line;
  utf8 : IsUtf8 l.rest;
}

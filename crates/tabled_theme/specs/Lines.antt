-- The custom lines of a theme, in one direction.
use Rattle.std.specs.Prelude.{ℕ, Option, List, ◌++◌, reverse}
use Rattle.std.specs.FinMap.{FinMap, get, entries, from_entries}
use Rattle.std.specs.Ordering.{nat_cmp}
use Rattle.std.specs.Option.{option_or}

module _ {L : Type 0} where
  -- under each index the last line that a list has for it
  abbrev pub last_under : List (ℕ × L) → FinMap nat_cmp L
  last_under lines = from_entries (reverse lines)

  -- the line that shows at an index: the one that was set, else the one beneath
  abbrev pub shown_line : FinMap nat_cmp L → FinMap nat_cmp L → ℕ → Option L
  shown_line set beneath index = option_or (get set index) (get beneath index)

  -- lines as they are put into a table: those beneath, and then those that were set, which take the place of the others
  abbrev pub lines_put : FinMap nat_cmp L → FinMap nat_cmp L → List (ℕ × L)
  lines_put set beneath = entries beneath ++ entries set

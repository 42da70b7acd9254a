-- Kept maps as finite maps.
use Rattle.std.specs.Prelude.{List}
use Rattle.std.specs.declared.cmp.Ordering.{Ordering}
use Rattle.std.specs.FinMap.{FinMap, from_entries}

-- the map of a list of entries with its keys in that order
abbrev pub table : {K X : Type 0} → (R : K → K → Ordering) → List (K × X) → FinMap R X
table R entries = from_entries {R = R} entries

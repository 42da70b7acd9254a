-- Whether two kept maps keep the same, where an equality of the values says which of those are the same.
use Rattle.std.specs.Prelude.{Bool, ◌&&◌}
use Rattle.std.specs.Ordering.{eq_by_cmp}
use Rattle.std.specs.Cmp.Lexicographic.{pointwise}
use Rattle.std.specs.declared.cmp.Ordering.{Ordering}
use Rattle.std.specs.FinMap.{FinMap, entries}

-- two maps: the same keys, and under each the same value
abbrev pub same_map : {K X : Type 0} {R : K → K → Ordering} → (X → X → Bool) → FinMap R X → FinMap R X → Bool
same_map {R = R} same m n = pointwise (λ a b. eq_by_cmp R a.0 b.0 && same a.1 b.1) (entries m) (entries n)

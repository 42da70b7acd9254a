-- The first key of a map at or after a given one.
use Rattle.std.specs.Prelude.{◌≡◌, false, Option, Some, None, IsSome}
use Rattle.std.specs.FinMap.{FinMap, get}
use Rattle.std.specs.Ordering.{is_gt}
use Rattle.std.specs.declared.cmp.Ordering.{Ordering}

-- a key is kept at or after another one
abbrev pub IsKeptFrom : {K X : Type 0} (R : K → K → Ordering) → FinMap R X → K → K → Type 0
IsKeptFrom R m from key = (is_gt (R from key) ≡ false) × IsSome (get m key)

-- it is the first of those that are; or none is
abbrev pub IsFirstFrom : {K X : Type 0} (R : K → K → Ordering) → FinMap R X → K → Option K → Type 0
IsFirstFrom {K} R m from (Some first) = IsKeptFrom R m from first × ((key : K) → IsKeptFrom R m from key → is_gt (R first key) ≡ false)
IsFirstFrom {K} R m from None = (key : K) → is_gt (R from key) ≡ false → get m key ≡ None

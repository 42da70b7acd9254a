-- How many keys of a finite map have a value that passes a test.
use Rattle.std.specs.Prelude.{ℕ, Option, Some, None, Bool, false}
use Rattle.std.specs.Int.{from_bool}
use Rattle.std.specs.declared.cmp.Ordering.{Ordering}
use Rattle.std.specs.FinMap.{FinMap, get, retain_keys, len}

-- whether a value is there and passes
abbrev pub passes : {X : Type 0} → (X → Bool) → Option X → Bool
passes test None = false
passes test (Some x) = test x

-- how many keys have a value that passes the test of its key
unfoldable pub count : {K X : Type 0} {R : K → K → Ordering} → (K → X → Bool) → FinMap R X → ℕ
count test m = len (retain_keys m (λ k. passes (test k) (get m k)))

-- 1 for true, 0 for false
abbrev pub one_if : Bool → ℕ
one_if = from_bool

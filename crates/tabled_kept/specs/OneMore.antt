-- A number that is counted up where it is kept.
use Rattle.std.specs.Prelude.{◌≡◌, ℕ, ◌+◌, Some}
use Rattle.std.specs.declared.cmp.Ordering.{Ordering}
use Rattle.std.specs.FinMap.{FinMap, get, insert}

-- the number under a key was there, and is one more now
abbrev pub IsOneMore : {K : Type 0} {R : K → K → Ordering} → FinMap R ℕ → FinMap R ℕ → K → Type 0
IsOneMore old new key = (n : ℕ) × (get old key ≡ Some n) × (new ≡ insert old key (n + 1))

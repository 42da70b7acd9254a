-- How the meter of look-ups goes up.
use Rattle.std.specs.Prelude.{◌≡◌, ℕ, ◌+◌, ◌≤◌, min}

-- the last number of the meter, at which it saturates
abbrev pub last_count : ℕ
last_count = 0xffff_ffff_ffff_ffff

-- the meter goes up by at most the given number, and saturates at its end
pub record IsRaised (most old new : ℕ) : Type 0 where
  pub no_lower : old ≤ new
  pub by_at_most : new ≤ old + most
  pub stands_still : old ≡ last_count → new ≡ last_count

-- one reading was counted
unfoldable pub IsCounted : ℕ → ℕ → Type 0
IsCounted old new = new ≡ min (old + 1) last_count

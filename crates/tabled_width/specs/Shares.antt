-- How columns that ask for more than there is share what there is.
use Rattle.std.specs.Prelude.{◌≡◌, ◌⊎◌, ℕ, ◌+◌, ◌-◌, ◌<◌, ◌≤◌, min, nat_le, if◌then◌else◌, List, [], ◌∷◌}

-- how much columns take that ask for so much, where none may take more than the cap
abbrev pub used : ℕ → List ℕ → ℕ
used cap [] = 0
used cap (asked ∷ more) = min cap asked + used cap more

-- the greatest cap from `least` on with which the columns fit: a greater one does not fit, or gives nothing more; it is `least` where not even
-- that fits
pub record IsCap (least room : ℕ) (asked : List ℕ) (cap : ℕ) : Type 0 where
  pub some : least ≤ cap
  pub fits : (cap ≡ least) ⊎ (used cap asked ≤ room)
  pub most : (more : ℕ) → cap < more → used more asked ≤ room → used more asked ≡ used cap asked

-- what each column gets: what it asks for up to the cap, and of what is left over the first ones that ask for more get one each
abbrev pub shared : ℕ → ℕ → List ℕ → List ℕ
shared cap left [] = []
shared cap left (asked ∷ more) = if nat_le asked cap then asked ∷ shared cap left more else (cap + min left 1) ∷ shared cap (left - 1) more

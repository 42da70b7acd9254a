-- Where all cells of a row have the same value.
use Rattle.std.specs.Prelude.{◌≡◌, ℕ, List}
use Rattle.tabled_object.specs.Entities.{position}
use Rattle.tabled_settings.specs.Setting.{EntityEvent, covering}
use Rattle.tabled_settings.specs.Live.{Live, value_at}

-- the same events cover each cell of a row
abbrev pub CoverAlike : {T : Type 0} → List (EntityEvent T) → ℕ → Type 0
CoverAlike events row = (col other : ℕ) → covering events (position row col) ≡ covering events (position row other)

-- each cell of a row has the same value
abbrev pub IsRowAlike : {T : Type 0} → Live T → ℕ → Type 0
IsRowAlike live row = (col other : ℕ) → value_at live (position row col) ≡ value_at live (position row other)

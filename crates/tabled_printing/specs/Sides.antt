-- What vertical lines show beside rows, as it is kept.
use Rattle.std.specs.Prelude.{◌≡◌, ℕ, Bool, ◌≤◌, Option, option_map}
use Rattle.std.specs.Option.{ForSome}
use Rattle.tabled_configuration.specs.Configuration.{Configuration}
use Rattle.tabled_printing.specs.declared.sides.RowSide.{RowSide}
use Rattle.tabled_printing.specs.declared.sides.RowSides.{RowSides}
use Rattle.tabled_printing.specs.Beside.{plain_side}
use Rattle.tabled_printing.specs.SideMarks.{mark_kept, side_mark, IsAlikeSide}

abbrev pub side_at : RowSides → ℕ → Option RowSide
side_at sides c = mark_kept sides.last sides.marks c

-- that is what they show
pub record AreSides (cfg : Configuration) (wanted : Bool) (shape : ℕ × ℕ) (sides : RowSides) : Type 0 where
  pub marks : (c : ℕ) → c ≤ shape.1 → option_map side_mark (side_at sides c) ≡ plain_side cfg wanted shape c
  pub alike : (c : ℕ) → c ≤ shape.1 → ForSome (side_at sides c) (IsAlikeSide cfg wanted shape.0 c)

-- The texts of the colors of four sides.
use Rattle.std.specs.Prelude.{ℕ, Option, Some, List}
use Rattle.tabled_border.specs.Texts.{Texts}
use Rattle.tabled_settings.specs.declared.sides.Sides.{Sides}

-- the texts of a color, by what says them
abbrev pub texts_by : {C : Type 0} → (C → List ℕ) → (C → List ℕ) → C → Texts
texts_by prefix suffix color = record { prefix = prefix color; suffix = suffix color }

-- those of the color of each side
abbrev pub side_texts : {C : Type 0} → (C → List ℕ) → (C → List ℕ) → Sides C → Sides (Option Texts)
side_texts prefix suffix colors = record {
  left = Some (texts_by prefix suffix colors.left);
  right = Some (texts_by prefix suffix colors.right);
  top = Some (texts_by prefix suffix colors.top);
  bottom = Some (texts_by prefix suffix colors.bottom);
}

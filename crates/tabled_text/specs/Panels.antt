-- Rows over all columns of a table.
use Rattle.std.specs.Prelude.{ℕ, ◌-◌, max, List, [], ◌∷◌, replicate}
use Rattle.tabled_object.specs.Entities.{position}
use Rattle.tabled_configuration.specs.Colored.{Changes, Colored}
use Rattle.tabled_configuration.specs.Configuration.{by_column_span}
use Rattle.tabled_correction.specs.Correction.{correction_events}
use Rattle.tabled_width.specs.Texts.{Table}
use Rattle.tabled_measure.specs.Sizes.{column_count}

-- how many columns such a row spans: all, and one in a table without rows
abbrev pub panel_columns : Table → ℕ
panel_columns table = max (column_count table) 1

-- its cells: a text, and empty ones after it
abbrev pub panel : List ℕ → Table → List (List ℕ)
panel text table = text ∷ replicate (panel_columns table - 1) []

-- what is set for it: its first cell spans all columns, and then the borders of a table of that shape are corrected
pub record IsSpannedBy (row : ℕ) (shape : ℕ × ℕ) (old new : Colored) : Type 0 where
  pub spanned : Colored
  pub by_span : Changes (by_column_span (position row 0, shape.1)) old spanned
  pub by_correction : Changes (correction_events shape spanned.spanned) spanned new

-- Where all cells of a row are set alike.
use Rattle.std.specs.Prelude.{ℕ, Option, Some, None, ⊤}
use Rattle.tabled_border.specs.Texts.{Texts}
use Rattle.tabled_settings.specs.declared.cell_settings.CellSettings.{CellSettings}
use Rattle.tabled_settings.specs.AlikeRows.{IsRowAlike}
use Rattle.tabled_settings.specs.Live.{Live}

-- each cell of a row has the same color, or none
abbrev pub AreColorsAlike : Option (Live Texts) → ℕ → Type 0
AreColorsAlike None row = ⊤
AreColorsAlike (Some live) row = IsRowAlike live row

-- each cell of a row has the same around its text, and the same is trimmed of that
pub record AreCellsAlike (settings : CellSettings) (row : ℕ) : Type 0 where
  pub padding : IsRowAlike settings.padding row
  pub padding_color : IsRowAlike settings.padding_color row
  pub justification : IsRowAlike settings.justification row
  pub justification_color : IsRowAlike settings.justification_color row
  pub trim_horizontal : IsRowAlike settings.trim_horizontal row
  pub trim_vertical : IsRowAlike settings.trim_vertical row

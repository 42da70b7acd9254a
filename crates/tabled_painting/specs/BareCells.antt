-- Bare cells of rows that are one line high: their texts are shown whole, between spaces, all in one color.
use Rattle.std.specs.Prelude.{◌≡◌, ℕ, Bool, true, false, ◌+◌, ◌-◌, Option, List, ◌++◌, length}
use Rattle.tabled_border.specs.Texts.{Texts}
use Rattle.tabled_settings.specs.declared.alignment.AlignmentHorizontal.{AlignmentHorizontal}
use Rattle.tabled_settings.specs.declared.cell_settings.CellSettings.{CellSettings}
use Rattle.tabled_settings.specs.Live.{Live}
use Rattle.tabled_settings.specs.Padding.{first_padding}
use Rattle.tabled_cells.specs.declared.placement.Placement.{Placement}
use Rattle.tabled_cells.specs.Placed.{free_before, times}
use Rattle.tabled_cells.specs.Placements.{placement_at}
use Rattle.tabled_painting.specs.CellLines.{Coloring, coloring_at}

-- such a cell, wherever its text stands
pub record IsBareCell (how : Placement) : Type 0 where
  pub whole_lines : how.trim_horizontal ≡ false
  pub all_lines : how.trim_vertical ≡ false
  pub spaces : how.justification ≡ 32
  pub padding : how.padding ≡ first_padding

-- the text of a cell and all that stands beside it have that color
pub record IsInColor (color : Option Texts) (colors : Coloring) : Type 0 where
  pub text : colors.text ≡ color
  pub fill : colors.fill ≡ color
  pub before : colors.padding.left ≡ color
  pub after : colors.padding.right ≡ color

-- the cell at a row and a column is such a one, and has that color where colors are wanted
pub record IsBareIn (wanted : Bool) (settings : CellSettings) (colors : Option (Live Texts)) (r c : ℕ) (color : Option Texts) : Type 0 where
  pub bare : IsBareCell (placement_at settings r c)
  pub in_color : wanted ≡ true → IsInColor color (coloring_at settings colors r c)

-- a text in such a cell of a column of that width: before it and after it a space, and of the spaces that are free as many as its side says
abbrev pub bare_text : AlignmentHorizontal → ℕ → List ℕ → List ℕ
bare_text side width text =
    let free = width - 2 - length text in
    let before = free_before side free in
    times (1 + before) 32 ++ text ++ times (free - before + 1) 32

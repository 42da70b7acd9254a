-- A cell as it is painted, line by line.
use Rattle.std.specs.Prelude.{ℕ, nat_lt, ◌+◌, ◌-◌, ◌==◌, if◌then◌else◌, Option, Some, None, List, [], ◌++◌, length, slice_index_or, option_and_then, option_copied}
use Rattle.tabled_border.specs.Texts.{Texts}
use Rattle.tabled_object.specs.declared.position.Position.{Position}
use Rattle.tabled_settings.specs.declared.cell_settings.CellSettings.{CellSettings}
use Rattle.tabled_settings.specs.declared.sides.Sides.{Sides}
use Rattle.tabled_settings.specs.Live.{Live, value_at}
use Rattle.tabled_cells.specs.declared.placement.Placement.{Placement}
use Rattle.tabled_cells.specs.Placed.{times, lines_above, line_parts, aligned_width}
use Rattle.tabled_painting.specs.declared.cell_colors.CellColors.{CellColors}
use Rattle.tabled_painting.specs.Painted.{Painted, paint}

-- the colors of a cell: of its text, of what fills its lines, and of the padding around these
pub record Coloring : Type 0 where
  pub text : Option Texts
  pub fill : Option Texts
  pub padding : Sides (Option Texts)

-- a color, if it has texts
abbrev pub with_texts : Texts → Option Texts
with_texts color = if length color.prefix + length color.suffix == 0 then None else Some color

-- the color of the text of a cell, by the colors of cells, if there are some
abbrev pub text_color : Option (Live Texts) → Position → Option Texts
text_color colors cell = option_and_then (λ live. with_texts (value_at live cell)) colors

-- the colors of the cell at a row and a column, by what is set for cells and by their colors, if there are some
unfoldable pub coloring_at : CellSettings → Option (Live Texts) → ℕ → ℕ → Coloring
coloring_at settings colors row col =
    let cell : Position = record { row = row; col = col } in
    record {
      text = text_color colors cell;
      fill = value_at settings.justification_color cell;
      padding = value_at settings.padding_color cell;
    }

-- a line of the text of a cell: its padding at the left, what fills the line before the text, the text, what fills it after that, and
-- its padding at the right
unfoldable pub painted_line : Placement → Coloring → ℕ → ℕ → List ℕ → Painted
painted_line how colors width aligned line =
    let parts = line_parts how width aligned line in
    paint colors.padding.left (times how.padding.left.size how.padding.left.fill) ++ paint colors.fill (times parts.before parts.fill) ++ paint colors.text line
    ++ paint colors.fill (times parts.after parts.fill) ++ paint colors.padding.right (times how.padding.right.size how.padding.right.fill)

-- line n of a cell: a line of its text, or above and below these a line that looks as its padding there
unfoldable pub cell_line : Placement → Coloring → ℕ → ℕ → List (List ℕ) → ℕ → Painted
cell_line how colors width height lines n =
    let above = lines_above how height (length lines) in
    let line = slice_index_or lines (n - above) [] in
    if nat_lt n above then paint colors.padding.top (times width how.padding.top.fill) else
    if nat_lt (n - above) (length lines) then painted_line how colors width (aligned_width how lines line) line else
    paint colors.padding.bottom (times width how.padding.bottom.fill)

-- the colors as the code has them
abbrev pub coloring_of : CellColors → Coloring
coloring_of colors = record { text = option_copied colors.text; fill = option_copied colors.fill; padding = colors.padding.now }

-- Tables within a number of terminal columns.
use Rattle.std.specs.Prelude.{◌≡◌, ℕ, ◌+◌, ◌-◌, ◌≤◌, List, [], map, length, slice_index, slice_index_or}
use Rattle.tabled_object.specs.Entities.{below, position}
use Rattle.tabled_settings.specs.declared.cell_settings.CellSettings.{CellSettings}
use Rattle.tabled_settings.specs.declared.indent.Indent.{Indent}
use Rattle.tabled_settings.specs.declared.sides.Sides.{Sides}
use Rattle.tabled_settings.specs.Live.{value_at}
use Rattle.tabled_configuration.specs.Configuration.{ConfigEvent}
use Rattle.tabled_printing.specs.Picture.{look}
use Rattle.tabled_width.specs.Texts.{Table}
use Rattle.tabled_painting.specs.Widths.{text_width}
use Rattle.tabled_width.specs.declared.limit.Overflow.{Overflow}
use Rattle.tabled_width.specs.Limited.{CanFit}
use Rattle.tabled_width.specs.Shares.{used, IsCap, shared}
use Rattle.tabled_measure.specs.Sizes.{greatest, cell, column_count, column_widths}
use Rattle.tabled_measure.specs.Cells.{cells_set, margin_set}
use Rattle.tabled_measure.specs.Changed.{cells_changed, texts_of_columns}

-- how many terminal columns the padding of a column takes, in a table of so many rows: as many as at both sides of the cell that has most
unfoldable pub padding_across : CellSettings → ℕ → ℕ → ℕ
padding_across settings rows col =
    greatest (map (λ row. let padding : Sides Indent = value_at settings.padding (position row col) in padding.left.size + padding.right.size) (below rows))

-- how many terminal columns a table takes besides those of its texts: its margin, its vertical lines and the padding of its columns
abbrev pub frame_width : List ConfigEvent → Table → ℕ
frame_width es table = text_width (look es (length table, column_count table) (padding_across (cells_set es) (length table)) (λ r. 1)) (margin_set es)

-- how many terminal columns the texts of each column ask for
abbrev pub texts_asked : Table → List ℕ
texts_asked table = map (λ width. width - 2) (column_widths table)

-- how many each column gets of a room for the texts of all, where none gets more than the cap but what is left over
abbrev pub shares : ℕ → ℕ → Table → List ℕ
shares cap room table = shared cap (room - used cap (texts_asked table)) (texts_asked table)

-- a table whose columns share a room, in which none gets less than the least share if it asks for that, and each of whose texts is kept within
-- the share of its column
pub record IsFitted (how : Overflow) (least room : ℕ) (before after : Table) : Type 0 where
  pub cap : ℕ
  pub is_cap : IsCap least room (texts_asked before) cap
  pub texts : after ≡ cells_changed (texts_of_columns how (shares cap room before)) before

-- each text can be kept within the share of its column, if that has any
abbrev pub CanShare : Overflow → ℕ → ℕ → Table → Type 0
CanShare how least room table =
    (cap : ℕ) → IsCap least room (texts_asked table) cap → (row col : ℕ) → 1 ≤ slice_index (shares cap room table) col
    → CanFit how (slice_index (shares cap room table) col) (cell (slice_index_or table row []) col)

-- the least number of terminal columns that a table can be kept within, where each of its columns gets what it asks for up to the least share
abbrev pub least_width : ℕ → List ConfigEvent → Table → ℕ
least_width least es table = frame_width es table + used least (texts_asked table)

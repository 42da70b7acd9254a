-- A table of texts with its configuration, and the text that it prints.
use Rattle.std.specs.Prelude.{◌≡◌, ℕ, true, if◌then◌else◌, List, length, map, slice_index}
use Rattle.std.specs.Coded.{Coded, codes}
use Rattle.std.specs.FinMap as finmap
use Rattle.std.specs.List.{join_with_byte}
use Rattle.std.specs.declared.vec.Vec.{Vec}
use Rattle.tabled_object.specs.Entities.{below}
use Rattle.tabled_object.specs.declared.dimension.FixedDimension.{FixedDimension}
use Rattle.tabled_object.specs.declared.records.Shape.{Shape}
use Rattle.tabled_configuration.specs.Colored.{Colored}
use Rattle.tabled_configuration.specs.Configuration.{Configuration, ConfigEvent, all_writes, characters_of, is_sized_by_texts}
use Rattle.tabled_places.specs.Drawn.{drawn}
use Rattle.tabled_places.specs.declared.place.LineOf.{LineOf}
use Rattle.tabled_layout.specs.declared.table_settings.TableSettings.{TableSettings}
use Rattle.tabled_rooms.specs.Sizes.{spanned_widths, spanned_heights}
use Rattle.tabled_printing.specs.Picture.{Look, look}
use Rattle.tabled_painting.specs.Painted.{Painted, plain}
use Rattle.tabled_painting.specs.PaintedTable.{painted_table, painted_cells, plain_text}
use Rattle.tabled_painting.specs.PaintedSpans.{columns_spanned, painted_as_set, rows_spanned}
use Rattle.tabled_width.specs.Texts.{Table}
use Rattle.tabled_printing.specs.Pieces.{lent}
use denote.Ref.{Bor}
use Rattle.tabled_measure.specs.Sizes.{column_count, column_widths, row_heights, width_with_padding, height_with_padding}
use Rattle.tabled_measure.specs.Cells.{cells_set, margin_set, cell_colors, settings_set, leaves_sizes}

-- the text of each cell, the sizes, and the configuration
pub record Drawing : Type 0 where
  pub texts : Table
  pub sizes : FixedDimension
  pub config : Colored

-- by it a proof tells two of them apart
pub drawing_code : Coded Drawing
drawing_code = Prim.hlevel (codes, finmap.code)

-- how many rows and columns a table has
abbrev pub shape_of : Table → Shape
shape_of table = record { rows = length table; cols = column_count table }

-- how a table looks after a list of events, where no cell spans and no padding is set
abbrev pub look_of : List ConfigEvent → Table → Look
look_of es table = look es (length table, column_count table) (slice_index (column_widths table)) (slice_index (row_heights table))

-- where cells span or have padding: how wide each column is, and how high each row, by what is set and by which lines are drawn
unfoldable pub widths_with_spans : TableSettings → List ConfigEvent → Table → List ℕ
widths_with_spans settings es table =
    spanned_widths (columns_spanned settings) (rows_spanned settings) (length table, column_count table) (width_with_padding settings.cells table)
    (λ n. drawn (characters_of es) (column_count table) (LineOf.Vertical n))

unfoldable pub heights_with_spans : TableSettings → List ConfigEvent → Table → List ℕ
heights_with_spans settings es table =
    spanned_heights (columns_spanned settings) (rows_spanned settings) (length table, column_count table) (height_with_padding settings.cells table)
    (λ n. drawn (characters_of es) (length table) (LineOf.Horizontal n))

-- how the table looks then
abbrev pub look_with_spans : List ConfigEvent → Table → Look
look_with_spans es table =
    look es (length table, column_count table) (slice_index (widths_with_spans (settings_set es) es table)) (slice_index (heights_with_spans (settings_set es) es table))

-- how it looks as it is printed: the one or the other
abbrev pub look_printed : List ConfigEvent → Table → Look
look_printed es table = if leaves_sizes es then look_of es table else look_with_spans es table

-- its lines after a list of events, each character with its color: its cells as the events set and color them, each in the room of all
-- columns and rows that it takes, what the events draw around them, and the margin around all
unfoldable pub painted : List ConfigEvent → Table → List Painted
painted es table = painted_as_set (look_printed es table) (settings_set es) (cell_colors es) table

-- the lines of a table each of whose cells stands in its own column and row alone
unfoldable pub painted_alone : List ConfigEvent → Table → List Painted
painted_alone es table = painted_table (look_of es table) (margin_set es) (painted_cells (cells_set es) (cell_colors es) (column_widths table) (row_heights table) table)

-- its text after a list of events: the characters of these lines
unfoldable pub text_of : List ConfigEvent → Table → List ℕ
text_of es table = plain_text (painted es table)

-- the texts of rows that are lent
abbrev pub lent_rows : List (Bor (List (Bor (List ℕ)))) → Table
lent_rows rows = map (λ row. lent row.now) rows

abbrev pub lent_texts : {Z : Type 0} → List (Vec (Bor (List ℕ)) Z) → Table
lent_texts rows = map (λ row. lent row.items) rows

-- the sizes that an option reads: those that are kept, where no cell spans and no padding is set; and else those by what is set, as it
-- stands before the option
abbrev pub widths_read : Configuration → Table → List ℕ
widths_read cfg table = if is_sized_by_texts cfg then column_widths table else widths_with_spans cfg.settings (all_writes cfg) table

abbrev pub heights_read : Configuration → Table → List ℕ
heights_read cfg table = if is_sized_by_texts cfg then row_heights table else heights_with_spans cfg.settings (all_writes cfg) table

pub record AreRead (drawing : Drawing) (sizes : FixedDimension) : Type 0 where
  pub widths : sizes.widths.items ≡ widths_read drawing.config.spanned drawing.texts
  pub heights : sizes.heights.items ≡ heights_read drawing.config.spanned drawing.texts
  pub kept : is_sized_by_texts drawing.config.spanned ≡ true → sizes ≡ drawing.sizes

-- the text of each cell as it is shown where none spans and no padding is set: its lines, joined by line feeds
unfoldable pub cell_texts : List ConfigEvent → Table → Table
cell_texts es table =
    let lines = painted_cells (cells_set es) (cell_colors es) (column_widths table) (row_heights table) table in
    map (λ r. map (λ c. join_with_byte 10 (map (λ k. plain (lines r c k)) (below (slice_index (row_heights table) r)))) (below (column_count table))) (below (length table))

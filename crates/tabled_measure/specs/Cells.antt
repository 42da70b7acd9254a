-- What is set for a table after a list of events, besides its borders.
use Rattle.std.specs.Prelude.{◌≡◌, ◌≤◌, ◌⊎◌, ℕ, true, [], Bool, ◌==◌, ◌&&◌, Option, None, List, slice_index_or}
use Rattle.std.specs.FinMap.{len}
use Rattle.std.specs.Str.{IsUtf8}
use Rattle.tabled_object.specs.Entities.{position}
use Rattle.tabled_settings.specs.declared.cell_settings.CellSettings.{CellSettings}
use Rattle.tabled_settings.specs.Padding.{keeps_first_padding}
use Rattle.tabled_layout.specs.TableSettings.{settings_after, first_settings}
use Rattle.tabled_layout.specs.declared.table_settings.TableSettings.{TableSettings}
use Rattle.tabled_configuration.specs.Configuration.{ConfigEvent, settings_of, cell_colors_of}
use Rattle.tabled_configuration.specs.CellColors.{colors_after}
use Rattle.tabled_border.specs.Texts.{Texts}
use Rattle.tabled_settings.specs.declared.indent.Indent.{Indent}
use Rattle.tabled_settings.specs.Live.{Live, value_at}
use Rattle.tabled_layout.specs.declared.margin.Margin.{Margin}
use Rattle.tabled_width.specs.Limited.{IsPrintableText}
use Rattle.tabled_width.specs.Narrow.{is_narrow}
use Rattle.tabled_width.specs.Texts.{Table}
use Rattle.tabled_measure.specs.Sizes.{cell}

-- all of it after a list of events; what is set for cells; and the margin and the colors of cells
abbrev pub settings_set : List ConfigEvent → TableSettings
settings_set es = settings_after first_settings (settings_of es)

abbrev pub cells_set : List ConfigEvent → CellSettings
cells_set es = (settings_set es).cells

abbrev pub margin_set : List ConfigEvent → Margin
margin_set es = (settings_set es).margin

abbrev pub cell_colors : List ConfigEvent → Option (Live Texts)
cell_colors es = colors_after None (cell_colors_of es)

-- whether no cell spans several columns or several rows after a list of events; whether no padding is set; and whether these leave the
-- columns and rows as large as the texts alone ask
abbrev pub sets_no_spans : List ConfigEvent → Bool
sets_no_spans es = (len (settings_set es).column_spans == 0) && (len (settings_set es).row_spans == 0)

abbrev pub sets_no_padding : List ConfigEvent → Bool
sets_no_padding es = keeps_first_padding (cells_set es).padding

abbrev pub leaves_sizes : List ConfigEvent → Bool
leaves_sizes es = sets_no_spans es && sets_no_padding es

-- the padding of each cell begins with a space: so no text joins what stands before it
abbrev pub StartsWithSpace : List ConfigEvent → ℕ → ℕ → Type 0
StartsWithSpace es r c = let left : Indent = (value_at (cells_set es).padding (position r c)).left in (left.fill ≡ 32) × (1 ≤ left.size)

abbrev pub KeepsApart : List ConfigEvent → Type 0
KeepsApart es = (r c : ℕ) → StartsWithSpace es r c

-- or so does that of each cell but those whose text is printable ASCII, and which a narrow character fills beside it
abbrev pub StandApart : List ConfigEvent → Table → Type 0
StandApart es table =
    (r c : ℕ) → StartsWithSpace es r c ⊎ (IsPrintableText (cell (slice_index_or table r []) c) × (is_narrow (value_at (cells_set es).justification (position r c)) ≡ true))

-- each text is of UTF-8, as those of Rust are
abbrev pub AreUtf8 : Table → Type 0
AreUtf8 table = (r c : ℕ) → IsUtf8 (cell (slice_index_or table r []) c)

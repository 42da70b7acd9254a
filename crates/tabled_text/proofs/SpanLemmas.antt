-- The lines of a table by the events that its configuration shows, and where each cell stands alone.
use Rattle.std.proofs.Common.{◌≡◌, ℕ, ◌==◌, ◌&&◌, Bool, true, false, if◌then◌else◌, Option, List, [], length, refl, sym, ap, subst, ◌∙◌}
use Rattle.std.specs.Prelude.{slice_index, slice_index_or}
use Rattle.std.specs.Cmp.{first_so}
use Rattle.std.specs.FinMap.{len}
use Rattle.std.specs.List.{join_with_byte}
use Rattle.tabled_border.specs.Texts.{Texts}
use Rattle.tabled_object.specs.declared.dimension.FixedDimension.{FixedDimension}
use Rattle.tabled_layout.specs.declared.table_settings.TableSettings.{TableSettings}
use Rattle.tabled_settings.specs.Live.{Live}
use Rattle.tabled_settings.specs.Padding.{keeps_first_padding}
use Rattle.tabled_configuration.specs.Configuration as borders
use Rattle.tabled_configuration.specs.Configuration.{Configuration, ConfigEvent, all_writes, is_sized_by_texts}
use Rattle.tabled_configuration.specs.Colored.{Changes, Colored, Shows}
use Rattle.tabled_printing.specs.Picture.{Look, look}
use Rattle.tabled_width.specs.Texts.{Table}
use Rattle.tabled_printing.proofs.LookLemmas.{own_look}
use Rattle.tabled_rooms.specs.Hosts.{Counts}
use Rattle.tabled_rooms.specs.Sizes.{spanned_widths, spanned_heights}
use Rattle.tabled_painting.specs.Painted.{plain}
use Rattle.tabled_painting.specs.PaintedTable.{plain_text}
use Rattle.tabled_painting.specs.PaintedSpans.{columns_spanned, painted_as_set, painted_by, rows_spanned, room_wide, room_high, spanned_cells}
use Rattle.tabled_painting.specs.CellLines.{coloring_at}
use Rattle.tabled_cells.specs.Placements.{placement_at}
use Rattle.tabled_cells.specs.Trimmed.{lines_shown}
use Rattle.tabled_painting.proofs.AloneLemmas.{alone_table, one_each}
use Rattle.tabled_painting.proofs.Plain.{plain_cell}
use Rattle.tabled_painting.proofs.SpannedPlain.{spanned_table_same}
use Rattle.tabled_measure.specs.Sizes.{column_count, column_widths, row_heights, width_with_padding, height_with_padding}
use Rattle.tabled_measure.specs.Cells.{cell_colors, leaves_sizes, sets_no_padding, sets_no_spans, settings_set}
use Rattle.tabled_text.specs.TextTable.{heights_read, heights_with_spans, look_of, look_printed, look_with_spans, painted, painted_alone, text_of, widths_read, widths_with_spans}

-- ---- the one or the other

-- where no cell spans and no padding is set each cell stands alone
pub painted_without : (es : List ConfigEvent) (table : Table) → leaves_sizes es ≡ true → painted es table ≡ painted_alone es table
unfolding painted painted_alone
painted_without es table none =
    let settings = settings_set es in
    let one = one_each settings (first_so (sets_no_spans es) (sets_no_padding es) none) in
    ap (λ b. painted_as_set (if b then look_of es table else look_with_spans es table) settings (cell_colors es) table) none
    ∙ sym (alone_table (look_of es table) (columns_spanned settings) (rows_spanned settings) settings.cells (cell_colors es) table one.0 one.1 settings.margin)

pub text_without : (es : List ConfigEvent) (table : Table) → leaves_sizes es ≡ true → text_of es table ≡ plain_text (painted_alone es table)
unfolding text_of
text_without es table none = ap plain_text (painted_without es table none)

pub text_spanned : (es : List ConfigEvent) (table : Table) → leaves_sizes es ≡ false → text_of es table ≡ plain_text (painted_as_set (look_with_spans es table) (settings_set es) (cell_colors es) table)
unfolding text_of painted
text_spanned es table some = ap (λ b. plain_text (painted_as_set (if b then look_of es table else look_with_spans es table) (settings_set es) (cell_colors es) table)) some

-- a configuration has spans where the events that it shows set some
pub spans_shown : (es : List ConfigEvent) (cfg : Configuration) → borders.Shows es cfg → is_sized_by_texts cfg ≡ leaves_sizes es
spans_shown es cfg shows = ap (λ (settings : TableSettings). (len settings.column_spans == 0) && (len settings.row_spans == 0) && keeps_first_padding settings.cells.padding) shows.settings_shown

-- ---- the sizes that an option reads

pub changes_read : {R : Type 0} (makes : R → FixedDimension → Colored → List ConfigEvent) (records other : R) (sizes read : FixedDimension) (cfg old new : Colored) → records ≡ other → sizes ≡ read → cfg ≡ old
    → Changes (makes records sizes cfg) cfg new → Changes (makes other read old) old new
changes_read makes records other sizes read cfg old new same_records same_sizes same_cfg changes =
    subst (λ cfg. Changes (makes other read cfg) cfg new) same_cfg
    (subst (λ sizes. Changes (makes other sizes cfg) cfg new) same_sizes (subst (λ records. Changes (makes records sizes cfg) cfg new) same_records changes))

-- ---- what the configuration keeps

-- the characters of cells do not depend on their colors
same_cells : (view : Look) (settings : TableSettings) (colors others : Option (Live Texts)) (table : Table) (r c k : ℕ)
    → plain (spanned_cells view (columns_spanned settings) (rows_spanned settings) settings.cells colors table r c k) ≡ plain (spanned_cells view (columns_spanned settings) (rows_spanned settings) settings.cells others table r c k)
same_cells view settings colors others table r c k =
    let how = placement_at settings.cells r c in
    let wide : ℕ = room_wide view (columns_spanned settings) (rows_spanned settings) r c in
    let high : ℕ = room_high view (columns_spanned settings) (rows_spanned settings) r c in
    let lines = lines_shown how (slice_index_or (slice_index_or table r []) c []) in
    plain_cell how (coloring_at settings.cells colors r c) wide high lines k ∙ sym (plain_cell how (coloring_at settings.cells others r c) wide high lines k)

module _ (cfg : Configuration) (table : Table) (es : List ConfigEvent) (shows : borders.Shows es cfg) where
  widths_same : widths_with_spans cfg.settings (all_writes cfg) table ≡ widths_with_spans (settings_set es) es table
  unfolding widths_with_spans
  widths_same =
      λ i. spanned_widths (columns_spanned (shows.settings_shown i)) (rows_spanned (shows.settings_shown i)) (length table, column_count table) (width_with_padding (shows.settings_shown i).cells table)
      (own_look cfg es (length table, column_count table) (λ c. 0) (λ r. 0) shows i).vertical

  heights_same : heights_with_spans cfg.settings (all_writes cfg) table ≡ heights_with_spans (settings_set es) es table
  unfolding heights_with_spans
  heights_same =
      λ i. spanned_heights (columns_spanned (shows.settings_shown i)) (rows_spanned (shows.settings_shown i)) (length table, column_count table) (height_with_padding (shows.settings_shown i).cells table)
      (own_look cfg es (length table, column_count table) (λ c. 0) (λ r. 0) shows i).horizontal

  module _ (shape : ℕ × ℕ) (widths heights : List ℕ) (shaped : shape ≡ (length table, column_count table)) (wide : widths ≡ widths_read cfg table) (high : heights ≡ heights_read cfg table) where
    -- it looks as the events say
    look_is : look (all_writes cfg) shape (slice_index widths) (slice_index heights) ≡ look_printed es table
    look_is =
        own_look cfg es shape (slice_index widths) (slice_index heights) shows
        ∙ (λ i. look es (shaped i) (slice_index (wide i)) (slice_index (high i)))
        ∙ (λ i. look es (length table, column_count table) (slice_index (if spans_shown es cfg shows i then column_widths table else widths_same i)) (slice_index (if spans_shown es cfg shows i then row_heights table else heights_same i)))
        ∙ by_case (leaves_sizes es)
      where
        by_case : (leaves : Bool) → look es (length table, column_count table) (slice_index (if leaves then column_widths table else widths_with_spans (settings_set es) es table))
            (slice_index (if leaves then row_heights table else heights_with_spans (settings_set es) es table)) ≡ (if leaves then look_of es table else look_with_spans es table)
        by_case true = refl
        by_case false = refl

    by_events : (colors : Option (Live Texts)) → painted_by (record { spanned = cfg; cell_colors = colors }) shape widths heights table ≡ painted_as_set (look_printed es table) (settings_set es) colors table
    by_events colors = λ i. painted_as_set (look_is i) (shows.settings_shown i) colors table

    -- the plain text, whatever colors the cells have
    pub is_plain_text : (colors : Option (Live Texts)) → plain_text (painted_by (record { spanned = cfg; cell_colors = colors }) shape widths heights table) ≡ text_of es table
    unfolding painted plain_text text_of
    is_plain_text colors =
        let settings = settings_set es in
        let view : Look = look_printed es table in
        let columns : Counts = columns_spanned settings in
        let rows : Counts = rows_spanned settings in
        ap plain_text (by_events colors)
        ∙ ap (join_with_byte 10)
        (spanned_table_same true view columns rows (spanned_cells view columns rows settings.cells colors table) (spanned_cells view columns rows settings.cells (cell_colors es) table)
        (same_cells view settings colors (cell_colors es) table) settings.margin)

-- the text in color is that of the painted lines
pub is_colored_text : (cfg : Colored) (table : Table) (shape : ℕ × ℕ) (widths heights : List ℕ) → shape ≡ (length table, column_count table) → widths ≡ widths_read cfg.spanned table → heights ≡ heights_read cfg.spanned table
    → (es : List ConfigEvent) → Shows es cfg → painted_by cfg shape widths heights table ≡ painted es table
unfolding painted
is_colored_text cfg table shape widths heights shaped wide high es shows =
    by_events cfg.spanned table es shows.spanned_shown shape widths heights shaped wide high cfg.cell_colors
    ∙ ap (λ colors. painted_as_set (look_printed es table) (settings_set es) colors table) shows.cell_colors_shown

-- What a table takes besides its texts, by what its configuration keeps.
use Rattle.std.proofs.Common.{◌≡◌, ℕ, ◌+◌, ◌-◌, ◌<◌, min, true, false, if◌then◌else◌, get_or, List, [], ◌∷◌, map, length, take, sym, ap, ◌∙◌, arith}
use Rattle.std.proofs.lemmas.List.{map-append, take_more}
use Rattle.std.specs.List.{sum_by}
use Rattle.std.proofs.lemmas.Bool.Decides.{nat_tests}
use Rattle.tabled_object.specs.Entities.{below, position}
use Rattle.tabled_places.specs.declared.place.LineOf.{LineOf}
use Rattle.tabled_places.specs.Drawn.{drawn}
use Rattle.tabled_settings.specs.declared.cell_settings.CellSettings.{CellSettings}
use Rattle.tabled_settings.specs.declared.indent.Indent.{Indent}
use Rattle.tabled_settings.specs.declared.sides.Sides.{Sides}
use Rattle.tabled_settings.specs.Live.{value_at}
use Rattle.tabled_settings.specs.Padding.{keeps_first_padding}
use Rattle.tabled_settings.proofs.Paddings.{no_padding_at}
use Rattle.tabled_rooms.proofs.CellRooms.{greatest_at, greatest_within}
use Rattle.tabled_configuration.specs.Configuration.{Configuration, ConfigEvent, Shows, all_writes, characters_of}
use Rattle.tabled_printing.specs.Along.{is_empty}
use Rattle.tabled_printing.specs.Picture.{Look, look}
use Rattle.tabled_width.specs.Texts.{Table}
use Rattle.tabled_printing.proofs.LookLemmas.{own_look}
use Rattle.tabled_painting.specs.Widths.{text_width}
use Rattle.tabled_printing.specs.Columns.{line_width}
use Rattle.tabled_measure.specs.Cells.{cells_set, margin_set}
use Rattle.tabled_width.specs.Shares.{used}
use Rattle.tabled_width.proofs.Sharing.{used-append}
use Rattle.tabled_text.specs.Fitted.{frame_width, padding_across}
use Rattle.tabled_measure.specs.Sizes.{column_count}

pub not_empty : (table : Table) → 0 < column_count table → is_empty (length table, column_count table) ≡ false
not_empty [] some = absurd (omega (arith, some))
not_empty (row ∷ rows) some = grind (arith, nat_tests, some)

-- how many columns a vertical line takes, by what is kept
abbrev pub line_kept : Configuration → ℕ → ℕ → ℕ
line_kept cfg cols line = if drawn (characters_of (all_writes cfg)) cols (LineOf.Vertical line) then 1 else 0

pub frame_kept : (cfg : Configuration) (es : List ConfigEvent) (table : Table) → Shows es cfg → 0 < column_count table
    → frame_width es table ≡ cfg.settings.margin.size.left.size
    + (sum_by (λ col. line_kept cfg (column_count table) col + padding_across cfg.settings.cells (length table) col) (below (column_count table)) + line_kept cfg (column_count table) (column_count table))
    + cfg.settings.margin.size.right.size
frame_kept cfg es table shows some =
    let shape : ℕ × ℕ = (length table, column_count table) in
    let wide : ℕ → ℕ = padding_across cfg.settings.cells (length table) in
    let own : Look = look (all_writes cfg) shape wide (λ r. 1) in
    (λ i. text_width (look es shape (padding_across (sym shows.settings_shown i).cells (length table)) (λ r. 1)) (margin_set es))
    ∙ ap (λ view. text_width view (margin_set es)) (sym (own_look cfg es shape wide (λ r. 1) shows))
    ∙ ap (λ settings. text_width own settings.margin) (sym shows.settings_shown)
    ∙ ap (λ b. if b then 0 else cfg.settings.margin.size.left.size
    + (sum_by (λ col. line_kept cfg (column_count table) col + wide col) (below (column_count table)) + line_kept cfg (column_count table) (column_count table))
    + cfg.settings.margin.size.right.size) (not_empty table some)

-- a table without places takes nothing
pub frame_none : (es : List ConfigEvent) (table : Table) → is_empty (length table, column_count table) ≡ true → frame_width es table ≡ 0
frame_none es table none =
    let shape : ℕ × ℕ = (length table, column_count table) in
    let bare : Look = look es shape (padding_across (cells_set es) (length table)) (λ r. 1) in
    ap (λ b. if b then 0 else (margin_set es).size.left.size
    + (sum_by (λ col. line_width bare col + bare.widths col) (below (column_count table)) + line_width bare (column_count table)) + (margin_set es).size.right.size) none

-- ---- the padding of a column

-- where no padding is set it has two spaces
pub across_unset : (settings : CellSettings) (rows col : ℕ) → keeps_first_padding settings.padding ≡ true → 0 < rows → padding_across settings rows col ≡ 2
unfolding padding_across
across_unset settings rows col none some =
    let across : ℕ → ℕ = λ row. (value_at settings.padding (position row col)).left.size + (value_at settings.padding (position row col)).right.size in
    let each : (row : ℕ) → across row ≡ 2 = λ row. ap (λ (padding : Sides Indent). padding.left.size + padding.right.size) (no_padding_at settings.padding (position row col) none) in
    let least = greatest_at across rows 0 some in
    let most = greatest_within across 2 rows (λ row within. let two = each row in omega (arith, two)) in
    let first = each 0 in
    omega (arith, least, most, first)

-- what the least share of one column more takes
pub used_more : (least : ℕ) (widths : List ℕ) (i : ℕ) → i < length widths
    → used least (map (λ width. width - 2) (take (i + 1) widths)) ≡ used least (map (λ width. width - 2) (take i widths)) + min least (get_or widths i 0 - 2)
used_more least widths i inside =
    let asked : ℕ → ℕ = λ width. width - 2 in
    let more = ap (λ ws. used least (map asked ws)) (take_more widths i 0 inside) ∙ ap (used least) (map-append asked (take i widths) (get_or widths i 0 ∷ []))
    ∙ used-append least (map asked (take i widths)) (asked (get_or widths i 0) ∷ []) in
    omega (arith, more)

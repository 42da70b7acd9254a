-- A row of which each cell is shown in its own place alone is painted as it is without spans, and so is a table of such rows.
use Rattle.std.proofs.Common.{◌≡◌, ℕ, ◌+◌, ◌-◌, ◌<◌, ◌≤◌, ◌==◌, ◌&&◌, zero, suc, min, max, unwrap_or, Bool, true, false, if◌then◌else◌, Option, List, [], ◌∷◌, ◌++◌, map, length, inl, inr, refl, sym, ap, ◌∙◌, arith}
use Rattle.std.specs.Prelude.{slice_index_or}
use Rattle.std.specs.FinMap.{empty_of_len, len}
use Rattle.std.specs.Cmp.{first_so, second_so}
use Rattle.std.proofs.lemmas.Bool.{cases_eq, eqb-true}
use Rattle.std.proofs.lemmas.Bool.Decides.{nat_tests}
use Rattle.tabled_kept.proofs.EmptyMaps.{none_under}
use Rattle.tabled_layout.specs.declared.table_settings.TableSettings.{TableSettings}
use Rattle.tabled_border.specs.Texts.{Texts}
use Rattle.tabled_object.specs.Entities.{below, position}
use Rattle.tabled_places.specs.declared.place.LineOf.{LineOf}
use Rattle.tabled_settings.specs.declared.cell_settings.CellSettings.{CellSettings}
use Rattle.tabled_settings.specs.Live.{Live}
use Rattle.tabled_layout.specs.declared.margin.Margin.{Margin}
use Rattle.tabled_printing.specs.Along.{is_empty}
use Rattle.tabled_width.specs.Texts.{Table}
use Rattle.tabled_printing.specs.Picture.{Look, marks_along}
use Rattle.tabled_rooms.specs.Hosts.{Cell, Counts, host}
use Rattle.tabled_rooms.specs.Holding.{AreHosts}
use Rattle.tabled_rooms.specs.declared.host.Host.{Host}
use Rattle.tabled_rooms.specs.Rooms.{room_height}
use Rattle.tabled_rooms.proofs.LawLemmas as laws
use Rattle.tabled_rooms.proofs.OpenLemmas.{above_open}
use Rattle.tabled_rooms.proofs.RowWidths.{alone_wide}
use Rattle.tabled_rooms.proofs.SizeLemmas.{flat_map_same}
use Rattle.tabled_painting.specs.declared.room.Room.{Room}
use Rattle.tabled_painting.specs.declared.table_lines.TableLines.{TableLines}
use Rattle.tabled_painting.specs.Margin.{in_margin}
use Rattle.tabled_painting.specs.PaintedTable.{Cells, painted_cell, painted_side, painted_between, painted_if_drawn, painted_lines, painted_row, painted_table}
use Rattle.tabled_painting.specs.PaintedSpans.{columns_spanned, lines_above, room_line, room_wide, room_high, rows_spanned, spanned_cells, spanned_if_drawn, spanned_lines, spanned_piece, spanned_between, spanned_row, spanned_table}
use Rattle.tabled_painting.specs.RoomLines.{AreOpen, KeepsRooms, KeepsSpans, RowAlone, StandAlone, columns_of, rows_of, nobody}
use Rattle.tabled_painting.proofs.SpannedLemmas.{across_own}

module _ (columns rows : Counts) (shape : ℕ × ℕ) (r : ℕ) where
  -- so it is where its hosts say it
  alone_kept : (kept : List Host) → AreHosts columns rows shape r kept → length kept ≡ shape.1 → StandAlone r kept → RowAlone columns rows shape r
  alone_kept kept are count alone = record {
    own = λ c within.
        let inside : c < length kept = omega (arith, within, count) in
        own_place c inside;
    ends = λ c within.
        let inside : c < length kept = omega (arith, within, count) in
        ap (λ (cell : Cell). min (cell.0 + rows cell.0 cell.1) shape.0) (sym (own_place c inside)) ∙ sym (ap (λ (h : Host). h.bottom) (are c nobody inside)) ∙ (alone c nobody inside).2;
  }
    where
      own_place : (c : ℕ) → c < length kept → host columns rows r c ≡ (r, c)
      own_place c inside =
          let is = are c nobody inside in
          let place = alone c nobody inside in
          λ i. ((sym (ap (λ (h : Host). h.row) is) ∙ place.0) i, (sym (ap (λ (h : Host). h.col) is) ∙ place.1) i)

  -- and where no cell spans
  pub alone_unset : ((a b : ℕ) → columns a b ≡ 1) → ((a b : ℕ) → rows a b ≡ 1) → r < shape.0 → RowAlone columns rows shape r
  alone_unset one_column one_row within = record {
    own = λ c inside. laws.alone columns rows (λ a b. omega (arith, one_column a b)) (λ a b. omega (arith, one_row a b)) r c;
    ends = λ c inside. omega (arith, one_row r c, within);
  }

  -- nothing of it is shown below it
  pub nothing_open : RowAlone columns rows shape r → ((a b : ℕ) → 1 ≤ columns a b) → ((a b : ℕ) → 1 ≤ rows a b) → (view : Look) (cells : Cells) (rooms : List (Option Room)) → length rooms ≤ shape.1
      → r + 1 < shape.0 → AreOpen view columns rows cells (r + 1) rooms
  nothing_open alone some_columns some_rows view cells rooms long more c _ within above first line = absurd (
      let next : suc r ≡ r + 1 = omega arith in
      let inside : c < shape.1 = omega (arith, within, long) in
      let opened : ((host columns rows (suc r) c).0 == suc r) ≡ false = ap (λ n. (host columns rows n c).0 == n) next ∙ above in
      let same : host columns rows (suc r) c ≡ (r, c) = above_open columns rows r c opened ∙ alone.own c inside in
      let before = (laws.takes columns rows some_columns some_rows (suc r) c).before_row in
      let reach : (host columns rows (suc r) c).0 + rows (host columns rows (suc r) c).0 (host columns rows (suc r) c).1 ≡ r + rows r c = ap (λ (cell : Cell). cell.0 + rows cell.0 cell.1) same in
      let end = alone.ends c inside in
      omega (arith, before, reach, end, more))

-- where no spans are set each cell spans one column and one row
pub one_each : (settings : TableSettings) → ((len settings.column_spans == 0) && (len settings.row_spans == 0)) ≡ true → ((r c : ℕ) → columns_spanned settings r c ≡ 1) × ((r c : ℕ) → rows_spanned settings r c ≡ 1)
one_each settings none =
    let columns = empty_of_len settings.column_spans (eqb-true (len settings.column_spans) 0 (first_so (len settings.column_spans == 0) (len settings.row_spans == 0) none)) in
    let rows = empty_of_len settings.row_spans (eqb-true (len settings.row_spans) 0 (second_so (len settings.column_spans == 0) (len settings.row_spans == 0) none)) in (
      λ r c. ap (λ found. max (unwrap_or found 1) 1) (none_under settings.column_spans columns (position r c)),
      λ r c. ap (λ found. max (unwrap_or found 1) 1) (none_under settings.row_spans rows (position r c)),
    )

-- ---- what is kept of spans

module _ (lines : TableLines) (firsts : List ℕ) (sides : List Bool) where
  module _ (r : ℕ) (kept : List Host) (keeps : KeepsSpans lines firsts sides (length kept)) (are : AreHosts (columns_of lines) (rows_of lines) lines.frame.shape r kept) (within : r < lines.frame.shape.0) where
    unset : length kept ≡ 0 → RowAlone (columns_of lines) (rows_of lines) lines.frame.shape r
    unset none = let one = keeps.none none in alone_unset (columns_of lines) (rows_of lines) lines.frame.shape r one.columns one.rows within

    pub row_alone : StandAlone r kept → RowAlone (columns_of lines) (rows_of lines) lines.frame.shape r
    row_alone alone = elim (cases_eq (length kept) 0) [
      | inl none ↦ unset none
      | inr some ↦ alone_kept (columns_of lines) (rows_of lines) lines.frame.shape r kept are (keeps.each (omega (arith, some))) alone
    ]

    -- all cells that are shown in a row begin in it
    pub all_begin : ((c : ℕ) (none : Host) → c < length kept → (slice_index_or kept c none).row ≡ r) → (c : ℕ) → c < lines.frame.shape.1 → (host (columns_of lines) (rows_of lines) r c).0 ≡ r
    all_begin begin c inside = elim (cases_eq (length kept) 0) [
      | inl none ↦ ap (λ (cell : Cell). cell.0) ((unset none).own c inside)
      | inr some ↦ let there : c < length kept = omega (arith, inside, keeps.each (omega (arith, some))) in sym (ap (λ (h : Host). h.row) (are c nobody there)) ∙ begin c nobody there
    ]

-- ---- places for rooms

pub few_rooms : (lines : TableLines) (hosts count : ℕ) → KeepsRooms lines hosts count → count ≤ lines.frame.shape.1
few_rooms lines hosts zero keeps = omega arith
few_rooms lines hosts (suc n) keeps = omega (arith, keeps.each (omega arith))

pub all_rooms : (lines : TableLines) (hosts count : ℕ) → KeepsRooms lines hosts count → 0 < hosts → count ≡ lines.frame.shape.1
all_rooms lines hosts zero keeps some = absurd (omega (arith, keeps.none refl, some))
all_rooms lines hosts (suc n) keeps some = keeps.each (omega arith)

-- ---- such a row, and such a table

module _ (view : Look) (columns rows : Counts) (settings : CellSettings) (colors : Option (Live Texts)) (table : Table) where
  abbrev cells : Cells
  cells = spanned_cells view columns rows settings colors table

  -- its cells, each in its own column and row
  abbrev own_cells : Cells
  own_cells r c k = painted_cell settings colors (view.widths c) (view.heights r) (slice_index_or (slice_index_or table r []) c []) r c k

  module _ (r : ℕ) (alone : RowAlone columns rows view.shape r) where
    wide : (c : ℕ) → c < view.shape.1 → room_wide view columns rows r c ≡ view.widths c
    wide c within = alone_wide view.widths view.vertical (host columns rows r) view.shape.1 c within (λ k inside. ap (λ (cell : Cell). cell.1) (alone.own k inside))

    high : (c : ℕ) → c < view.shape.1 → room_high view columns rows r c ≡ view.heights r
    high c within =
        ap (room_height view.heights view.horizontal r) (alone.ends c within)
        ∙ (let last : r + 1 - 1 ≡ r = omega arith in ap (λ n. lines_above view columns rows n + view.heights n - lines_above view columns rows r) last)
        ∙ (let sum : lines_above view columns rows r + view.heights r - lines_above view columns rows r ≡ view.heights r = omega arith in sum)

    piece_is : (k c : ℕ) → c < view.shape.1 → painted_side view r k c ++ own_cells r c k ≡ spanned_piece view columns rows cells r k c
    piece_is k c within =
        let test : (c == c) ≡ true = grind (arith, nat_tests) in
        let line : lines_above view columns rows r + k - lines_above view columns rows r ≡ k = omega arith in
        (λ i. painted_side view r k c ++ painted_cell settings colors (sym (wide c within) i) (sym (high c within) i) (slice_index_or (slice_index_or table r []) c []) r c k)
        ∙ (λ i. if sym test i then painted_side view r k c ++ cells r c (sym line i) else [])
        ∙ (λ i. let cell : Cell = sym (alone.own c within) i in if cell.1 == c then painted_side view r k c ++ room_line view columns rows cells cell (lines_above view columns rows r + k) else [])

    between_is : (k : ℕ) → painted_between view r k (λ c. own_cells r c k) ≡ spanned_between view columns rows cells r k
    between_is k =
        ap (λ l. l ++ painted_side view r k view.shape.1)
        (flat_map_same (λ c. painted_side view r k c ++ own_cells r c k) (spanned_piece view columns rows cells r k) view.shape.1 (λ c within. piece_is k c within))

    pub alone_row : painted_row view own_cells r ≡ spanned_row view columns rows cells r
    alone_row = λ i. map (λ k. between_is k i) (below (view.heights r))

  alone_lines : is_empty view.shape ≡ false → ((r : ℕ) → r < view.shape.0 → RowAlone columns rows view.shape r) → painted_lines view own_cells ≡ spanned_lines view columns rows cells
  unfolding painted_lines spanned_lines
  alone_lines any alone =
      ap (λ lines. lines ++ painted_if_drawn view view.shape.0)
      (flat_map_same (λ r. painted_if_drawn view r ++ painted_row view own_cells r) (λ r. spanned_if_drawn view columns rows cells r ++ spanned_row view columns rows cells r) view.shape.0
      (λ r within. let across = across_own view columns rows cells r any (omega (arith, within)) (λ c inside. ap (λ (cell : Cell). cell.0) ((alone r within).own c inside)) in
      λ i. (if view.horizontal r then across i ∷ [] else []) ++ alone_row r (alone r within) i))

  -- a table where no cell spans
  pub alone_table : ((r c : ℕ) → columns r c ≡ 1) → ((r c : ℕ) → rows r c ≡ 1) → (margin : Margin) → painted_table view margin own_cells ≡ spanned_table view columns rows cells margin
  unfolding painted_table spanned_table
  alone_table one_column one_row margin = by_case (is_empty view.shape) refl
    where
      by_case : (none : Bool) → is_empty view.shape ≡ none
          → (if none then [] else in_margin margin (length (marks_along view (LineOf.Horizontal 0))) (painted_lines view own_cells))
          ≡ (if none then [] else in_margin margin (length (marks_along view (LineOf.Horizontal 0))) (spanned_lines view columns rows cells))
      by_case true e = refl
      by_case false e = ap (in_margin margin (length (marks_along view (LineOf.Horizontal 0)))) (alone_lines e (λ r within. alone_unset columns rows view.shape r one_column one_row within))

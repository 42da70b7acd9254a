-- The lines of a table whose cells span are as wide as each other.
use Rattle.std.proofs.Common.{◌≡◌, ℕ, zero, suc, ◌+◌, ◌-◌, ◌<◌, ◌≤◌, ◌==◌, not, Bool, true, false, if◌then◌else◌, List, [], ◌∷◌, ◌++◌, map, length, refl, sym, ap, subst, ◌∙◌, arith}
use Rattle.std.specs.List.{list_all, sum_by, flat_map, range_with_len, All}
use Rattle.std.proofs.lemmas.Bool.{and_from}
use Rattle.std.proofs.lemmas.Bool.Decides.{nat_tests}
use Rattle.std.proofs.lemmas.List.{length-map, length-append}
use Rattle.std.proofs.lemmas.List.Concat.{length-flat_map}
use Rattle.std.proofs.lemmas.List.Elements.{All-nil, All-cons, All-append, All-map}
use Rattle.std.proofs.lemmas.List.FromFn.{length-range_with_len}
use Rattle.tabled_object.specs.Entities.{below}
use Rattle.tabled_places.specs.declared.place.Place.{Place}
use Rattle.tabled_places.specs.declared.place.LineOf.{LineOf}
use Rattle.tabled_layout.specs.declared.margin.Margin.{Margin}
use Rattle.tabled_printing.specs.Along.{is_empty, along}
use Rattle.tabled_printing.specs.Picture.{Look, character, text_shown, text_marked, mark_at, marks_along}
use Rattle.tabled_width.specs.Narrow.{is_narrow, IsRectangle}
use Rattle.tabled_printing.specs.Columns.{HasNarrowBorders, line_width, columns_before, table_width}
use Rattle.tabled_printing.proofs.Straight.{across_long}
use Rattle.tabled_width.proofs.Tiles.{Tile, Tile-nil, Tile-append, Tile-narrow, Tile-same, Tile-flat}
use Rattle.tabled_rooms.specs.Hosts.{Cell, Counts, host}
use Rattle.tabled_rooms.specs.Rooms.{one_if, room_width}
use Rattle.tabled_rooms.proofs.LawLemmas.{at_home}
use Rattle.tabled_rooms.proofs.OpenLemmas.{begins_by}
use Rattle.tabled_rooms.proofs.FirstColumns.{first_column, not_after, room_alike}
use Rattle.tabled_rooms.proofs.RowWidths.{pieces_fill}
use Rattle.tabled_painting.specs.Painted.{Painted, plain}
use Rattle.tabled_painting.specs.PaintedTable.{Cells, painted_marks, painted_side, painted_if_drawn, plain_text}
use Rattle.tabled_painting.specs.PaintedSpans.{painted_crossing, painted_edge, lines_above, room_line, spanned_piece, spanned_between, crossed_piece, spanned_across, spanned_if_drawn, spanned_row, spanned_lines, spanned_table}
use Rattle.tabled_painting.specs.Widths.{text_width}
use Rattle.tabled_painting.proofs.Even.{even_with_margin}
use Rattle.tabled_painting.proofs.Plain.{plain_both, plain_flat, plain_marks, plain_side}
use Rattle.tabled_painting.proofs.FrameLemmas.{by_test}

-- ---- lists

all_flat : {A : Type 0} (P : A → Type 0) (f : ℕ → List A) (start count : ℕ) → ((n : ℕ) → start ≤ n → n < start + count → All P (f n)) → All P (flat_map f (range_with_len start count))
all_flat P f start zero each = All-nil P
all_flat P f start (suc count) each =
    All-append P (f start) (flat_map f (range_with_len (start + 1) count)) (each start (omega arith) (omega arith))
    (all_flat P f (start + 1) count (λ n least most. each n (omega arith) (omega arith)))

all_mapped : {A : Type 0} (P : A → Type 0) (f : ℕ → A) (start count : ℕ) → ((n : ℕ) → start ≤ n → n < start + count → P (f n)) → All P (map f (range_with_len start count))
all_mapped P f start zero each = All-nil P
all_mapped P f start (suc count) each =
    All-cons P (f start) (map f (range_with_len (start + 1) count)) (each start (omega arith) (omega arith))
    (all_mapped P f (start + 1) count (λ n least most. each n (omega arith) (omega arith)))

all_if : {A : Type 0} (P : A → Type 0) (b : Bool) (x : A) → P x → All P (if b then x ∷ [] else [])
all_if P true x is = All-cons P x [] is (All-nil P)
all_if P false x is = All-nil P

-- ---- what places show

abbrev Tiled : ℕ → Painted → Type 0
Tiled width painted = Tile width (plain painted)

tiled_both : (m n : ℕ) (xs ys : Painted) → Tiled m xs → Tiled n ys → Tiled (m + n) (xs ++ ys)
tiled_both m n xs ys first second = subst (Tile (m + n)) (sym (plain_both xs ys)) (Tile-append m n (plain xs) (plain ys) first second)

tiled_flat : (f : ℕ → Painted) (w : ℕ → ℕ) (count : ℕ) → ((n : ℕ) → n < count → Tiled (w n) (f n)) → Tiled (sum_by w (below count)) (flat_map f (below count))
tiled_flat f w count each = subst (Tile (sum_by w (below count))) (sym (plain_flat f (below count))) (Tile-flat (λ n. plain (f n)) w 0 count (λ n least most. each n (omega (arith, most))))

module _ (view : Look) (narrow : HasNarrowBorders view) where
  characters_narrow : (places : List Place) → list_all is_narrow (map character (map (λ mark. mark.0) (map (mark_at view) places))) ≡ true
  characters_narrow [] = refl
  characters_narrow (place ∷ places) = and_from _ _ (narrow place) (characters_narrow places)

  places_tiled : (places : List Place) → Tiled (length places) (painted_marks (map (mark_at view) places))
  places_tiled places =
      let marks = map (mark_at view) places in
      let shown = map (λ mark. mark.0) marks in
      subst (Tile (length places)) (sym (plain_marks marks))
      (Tile-same (length (map character shown)) (length places) (text_marked marks) (length-map shown character ∙ length-map marks (λ mark. mark.0) ∙ length-map places (mark_at view))
      (Tile-narrow (map character shown) (characters_narrow places)))

  crossing_tiled : (r c : ℕ) → Tiled (one_if (view.vertical c)) (painted_crossing view r c)
  crossing_tiled r c = by (view.vertical c)
    where
      by : (drawn : Bool) → Tiled (one_if drawn) (painted_marks (map (mark_at view) (if drawn then Place.Cross r c ∷ [] else [])))
      by true = places_tiled (Place.Cross r c ∷ [])
      by false = places_tiled []

  edge_tiled : (r c : ℕ) → Tiled (view.widths c) (painted_edge view r c)
  edge_tiled r c =
      let places = map (Place.Horizontal r c) (below (view.widths c)) in
      Tile-same (length places) (view.widths c) (plain (painted_edge view r c)) (length-map (below (view.widths c)) (Place.Horizontal r c) ∙ length-range_with_len 0 (view.widths c)) (places_tiled places)

  side_tiled : (r k c : ℕ) → Tiled (one_if (view.vertical c)) (painted_side view r k c)
  side_tiled r k c = subst (Tile (one_if (view.vertical c))) (sym (plain_side view r k c)) (by (view.vertical c))
    where
      by : (drawn : Bool) → Tile (one_if drawn) (text_shown (if drawn then view.shown (Place.Vertical r c k) ∷ [] else []))
      by true = Tile-narrow (character (view.shown (Place.Vertical r c k)) ∷ []) (and_from _ _ (narrow (Place.Vertical r c k)) refl)
      by false = Tile-nil

  module _ (columns rows : Counts) (cells : Cells) (some_columns : (r c : ℕ) → 1 ≤ columns r c) (some_rows : (r c : ℕ) → 1 ≤ rows r c) where
    abbrev at : ℕ → ℕ → Cell
    at = host columns rows

    abbrev room : ℕ → ℕ → ℕ
    room r c = room_width view.widths view.vertical (at r) view.shape.1 c

    module _ (each : (r c n : ℕ) → r < view.shape.0 → c < view.shape.1 → at r c ≡ (r, c) → Tiled (room r c) (cells r c n)) where
      room_tiled : (r c n : ℕ) → r < view.shape.0 → c < view.shape.1 → (at r c).1 ≡ c → Tiled (room r c) (room_line view columns rows cells (at r c) n)
      room_tiled r c n within inside own =
          let shown : Cell = at r c in
          let before = begins_by columns rows r c in
          let same : room shown.0 shown.1 ≡ room r c = ap (room shown.0) own ∙ sym (room_alike columns rows some_columns some_rows view.widths view.vertical view.shape.1 r c own) in
          Tile-same (room shown.0 shown.1) (room r c) (plain (room_line view columns rows cells shown n)) same
          (each shown.0 shown.1 (n - lines_above view columns rows shown.0) (omega (arith, before, within)) (omega (arith, own, inside)) (at_home columns rows r c))

      -- ---- a line of text of a row

      piece_tiled : (r k c : ℕ) → r < view.shape.0 → c < view.shape.1
          → Tiled (if (at r c).1 == c then one_if (view.vertical c) + room r c else 0) (spanned_piece view columns rows cells r k c)
      piece_tiled r k c within inside =
          by_test Tiled ((at r c).1 == c) _ 0 _ []
          (λ e. let there : (at r c).1 ≡ c = grind (arith, nat_tests) in
          tiled_both (one_if (view.vertical c)) (room r c) (painted_side view r k c) _ (side_tiled r k c) (room_tiled r c (lines_above view columns rows r + k) within inside there)) (λ e. Tile-nil)

      between_tiled : (r k : ℕ) → r < view.shape.0 → Tiled (table_width view) (spanned_between view columns rows cells r k)
      between_tiled r k within =
          let wide : ℕ → ℕ = λ c. if (at r c).1 == c then one_if (view.vertical c) + room r c else 0 in
          let pieces : Painted = flat_map (spanned_piece view columns rows cells r k) (below view.shape.1) in
          let filled : sum_by wide (below view.shape.1) ≡ columns_before view view.shape.1 =
          pieces_fill (at r) (λ c. true) view.widths view.vertical view.shape.1 (not_after columns rows some_columns some_rows r) (first_column columns rows some_columns some_rows r) (λ c. refl) in
          tiled_both (columns_before view view.shape.1) (line_width view view.shape.1) pieces (painted_side view r k view.shape.1)
          (Tile-same (sum_by wide (below view.shape.1)) (columns_before view view.shape.1) (plain pieces) filled (tiled_flat (spanned_piece view columns rows cells r k) wide view.shape.1 (λ c inside. piece_tiled r k c within inside)))
          (side_tiled r k view.shape.1)

      -- ---- a horizontal line

      abbrev reached : ℕ → ℕ → Bool
      reached r c = not ((at r c).0 == r)

      crossed_tiled : (r c : ℕ) → r < view.shape.0 → c < view.shape.1
          → Tiled (if reached r c then (if (at r c).1 == c then one_if (view.vertical c) + room r c else 0) else one_if (view.vertical c) + view.widths c) (crossed_piece view columns rows cells r c)
      crossed_tiled r c within inside = by ((at r c).0 == r) ((at r c).1 == c) refl
        where
          by : (begins own : Bool) → ((at r c).1 == c) ≡ own
              → Tiled (if not begins then (if own then one_if (view.vertical c) + room r c else 0) else one_if (view.vertical c) + view.widths c)
              (if begins then painted_crossing view r c ++ painted_edge view r c else if own then painted_crossing view r c ++ room_line view columns rows cells (at r c) (lines_above view columns rows r - 1) else [])
          by true own e = tiled_both (one_if (view.vertical c)) (view.widths c) (painted_crossing view r c) (painted_edge view r c) (crossing_tiled r c) (edge_tiled r c)
          by false true e =
              let there : (at r c).1 ≡ c = grind (arith, nat_tests) in
              tiled_both (one_if (view.vertical c)) (room r c) (painted_crossing view r c) (room_line view columns rows cells (at r c) (lines_above view columns rows r - 1)) (crossing_tiled r c)
              (room_tiled r c (lines_above view columns rows r - 1) within inside there)
          by false false e = Tile-nil

      across_tiled : (r : ℕ) → r < view.shape.0 → Tiled (table_width view) (spanned_across view columns rows cells r)
      across_tiled r within =
          let wide : ℕ → ℕ = λ c. if reached r c then (if (at r c).1 == c then one_if (view.vertical c) + room r c else 0) else one_if (view.vertical c) + view.widths c in
          let pieces : Painted = flat_map (crossed_piece view columns rows cells r) (below view.shape.1) in
          let filled : sum_by wide (below view.shape.1) ≡ columns_before view view.shape.1 =
          pieces_fill (at r) (reached r) view.widths view.vertical view.shape.1 (not_after columns rows some_columns some_rows r) (first_column columns rows some_columns some_rows r)
          (λ c. ap (λ (cell : Cell). not (cell.0 == r)) (first_column columns rows some_columns some_rows r c)) in
          tiled_both (columns_before view view.shape.1) (line_width view view.shape.1) pieces (painted_crossing view r view.shape.1)
          (Tile-same (sum_by wide (below view.shape.1)) (columns_before view view.shape.1) (plain pieces) filled (tiled_flat (crossed_piece view columns rows cells r) wide view.shape.1 (λ c inside. crossed_tiled r c within inside)))
          (crossing_tiled r view.shape.1)

      -- ---- all lines

      module _ (some : is_empty view.shape ≡ false) where
        last_tiled : All (Tiled (table_width view)) (painted_if_drawn view view.shape.0)
        last_tiled =
            let line = LineOf.Horizontal view.shape.0 in
            let places = along view.horizontal view.vertical view.shape view.widths view.heights line in
            all_if (Tiled (table_width view)) (view.horizontal view.shape.0) (painted_marks (marks_along view line))
            (Tile-same (length places) (table_width view) (plain (painted_marks (marks_along view line))) (sym (length-map places (mark_at view)) ∙ across_long view narrow some view.shape.0 (omega arith)) (places_tiled places))

        lines_tiled : All (Tiled (table_width view)) (spanned_lines view columns rows cells)
        unfolding spanned_lines
        lines_tiled =
            let block : ℕ → List Painted = λ r. spanned_if_drawn view columns rows cells r ++ spanned_row view columns rows cells r in
            All-append (Tiled (table_width view)) (flat_map block (below view.shape.0)) (painted_if_drawn view view.shape.0)
            (all_flat (Tiled (table_width view)) block 0 view.shape.0
            (λ r least most. let within : r < view.shape.0 = omega (arith, most) in
            All-append (Tiled (table_width view)) (spanned_if_drawn view columns rows cells r) (spanned_row view columns rows cells r)
            (all_if (Tiled (table_width view)) (view.horizontal r) (spanned_across view columns rows cells r) (across_tiled r within))
            (all_mapped (Tiled (table_width view)) (spanned_between view columns rows cells r) 0 (view.heights r) (λ k low high. between_tiled r k within))))
            last_tiled

      one_long : {A : Type 0} (b : Bool) (x : A) → length (if b then x ∷ [] else []) ≡ one_if b
      one_long true x = refl
      one_long false x = refl

      lines_long : sum_by (λ r. one_if (view.horizontal r) + view.heights r) (below view.shape.0) ≤ length (spanned_lines view columns rows cells)
      unfolding spanned_lines
      lines_long =
          let block : ℕ → List Painted = λ r. spanned_if_drawn view columns rows cells r ++ spanned_row view columns rows cells r in
          let all = length-append (flat_map block (below view.shape.0)) (painted_if_drawn view view.shape.0) in
          let rows_long = length-flat_map block (below view.shape.0) in
          let same : sum_by (λ r. length (block r)) (below view.shape.0) ≡ sum_by (λ r. one_if (view.horizontal r) + view.heights r) (below view.shape.0) =
          (λ i. sum_by (λ r. block_long r i) (below view.shape.0)) in
          omega (arith, all, rows_long, same)
        where
          block_long : (r : ℕ) → length (spanned_if_drawn view columns rows cells r ++ spanned_row view columns rows cells r) ≡ one_if (view.horizontal r) + view.heights r
          block_long r =
              length-append (spanned_if_drawn view columns rows cells r) (spanned_row view columns rows cells r)
              ∙ (λ i. one_long (view.horizontal r) (spanned_across view columns rows cells r) i
              + (length-map (below (view.heights r)) (spanned_between view columns rows cells r) ∙ length-range_with_len 0 (view.heights r)) i)

      -- each line of the text is as wide as the others, where the table has some line
      pub spanned_even : (margin : Margin) → (is_empty view.shape ≡ false → 0 < sum_by (λ r. one_if (view.horizontal r) + view.heights r) (below view.shape.0))
          → IsRectangle (text_width view margin) (plain_text (spanned_table view columns rows cells margin))
      unfolding spanned_table
      spanned_even margin high =
          even_with_margin view margin (spanned_lines view columns rows cells) narrow
          (λ some. (All-map (Tile (table_width view)) plain (spanned_lines view columns rows cells) (lines_tiled some), (let long = lines_long in let least = high some in omega (arith, long, least))))

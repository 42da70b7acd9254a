-- The plain printer's lines are as wide as each other, where nothing joins a line of a cell.
use Rattle.std.proofs.Common.{◌≡◌, ◌==◌, ℕ, ◌<◌, ◌≤◌, true, false, if◌then◌else◌, List, [], ◌∷◌, ◌++◌, length, get_or, encode_utf8, encode_utf8_all, sym, ap, subst, ◌∙◌, arith, lit<, ⊎_elim}
use Rattle.std.specs.Prelude.{chars}
use Rattle.std.specs.Str.{IsUtf8}
use Rattle.std.specs.List.{list_all, All, flat_map, enumerate_from, join_with_byte}
use Rattle.std.proofs.lemmas.Bool.{or_cases, eqb-true}
use Rattle.std.proofs.lemmas.Bool.Decides.{nat_tests}
use Rattle.std.proofs.lemmas.List.Elements.{All-weaker}
use Rattle.std.proofs.lemmas.List.Sums.{AllPass-from_list_all}
use Rattle.std.proofs.lemmas.Str.{chars_past_char, encode_ascii, encodes-chars}
use Rattle.tabled_config.specs.declared.print_error.PrintError.{PrintError}
use Rattle.tabled_width.specs.Texts.{Table, pieces, width_of_text}
use Rattle.tabled_printing.specs.Along.{is_empty}
use Rattle.tabled_config.specs.Refusal.{unless, cell_faults, row_faults, table_faults}
use Rattle.tabled_printing.specs.Picture.{Look, text_lines}
use Rattle.tabled_width.specs.Narrow.{is_narrow, begins_with_space, stands_apart}
use Rattle.tabled_printing.specs.Columns.{HasNarrowBorders, table_width, StandsStraight}
use Rattle.tabled_config.proofs.FaultLemmas.{none_at, none_rest, right_rows, right_columns}
use Rattle.tabled_width.proofs.PieceTexts.{IsUtf8-piece, piece_lacks, cut_lines}
use Rattle.tabled_width.proofs.Tiles.{Tile, Tile-nil, Tile-space, Tile-narrow, Tile-same, Splits-utf8, Lacks, each_wide}
use Rattle.tabled_printing.proofs.Straight.{lines_around, lines_tiles, lines_straight}

-- ---- a line of a cell

spaced : (width : ℕ) (text : List ℕ) → IsUtf8 text → width_of_text text ≡ width → Lacks text → begins_with_space text ≡ true → Tile width text
spaced width [] u wide lacks begins = Tile-same _ _ _ (sym Tile-nil.wide ∙ wide) Tile-nil
spaced width (b ∷ bs) u wide lacks begins =
    let is : b ∷ bs ≡ encode_utf8 32 ++ bs = ap (λ n. n ∷ bs) (eqb-true b 32 begins) ∙ ap (λ front. front ++ bs) (sym (encode_ascii 32 (lit< tt))) in
    Tile-space width (b ∷ bs) (chars bs) (chars_past_char (b ∷ bs) bs 32 u is) (Splits-utf8 (b ∷ bs) u) wide lacks

all_narrow : (width : ℕ) (text : List ℕ) → IsUtf8 text → width_of_text text ≡ width → list_all is_narrow (chars text) ≡ true → Tile width text
all_narrow width text u wide narrow =
    let whole : encode_utf8_all (chars text) ≡ text = encodes-chars text u in
    let tile : Tile (length (chars text)) text = subst (Tile (length (chars text))) whole (Tile-narrow (chars text) narrow) in
    Tile-same _ _ _ (sym tile.wide ∙ wide) tile

piece_tile : (width : ℕ) (text : List ℕ) → IsUtf8 text → width_of_text text ≡ width → Lacks text → stands_apart text ≡ true → Tile width text
piece_tile width text u wide lacks apart =
    ⊎_elim (spaced width text u wide lacks) (all_narrow width text u wide) (or_cases (begins_with_space text) (list_all is_narrow (chars text)) apart)

-- ---- a table without faults

fitting : (widths heights : ℕ → ℕ) (r c : ℕ) (text : List ℕ) → 0 < heights r → cell_faults widths heights r (c, text) ≡ []
    → (length (pieces text) ≡ heights r) × (list_all (λ piece. width_of_text piece == widths c) (pieces text) ≡ true)
fitting widths heights r c text some none = (grind (arith, nat_tests), grind (arith, nat_tests))

module _ (view : Look) (cells : Table) (fits : table_faults view.widths view.heights view.shape cells ≡ [])
    (utf8 : (r c : ℕ) → IsUtf8 (get_or (get_or cells r []) c [])) (apart : (r c k : ℕ) → stands_apart (get_or (pieces (get_or (get_or cells r []) c [])) k []) ≡ true) where
  no_cell_fault : (r c : ℕ) → r < view.shape.0 → c < view.shape.1 → cell_faults view.widths view.heights r (c, get_or (get_or cells r []) c []) ≡ []
  no_cell_fault r c within inside =
      let row : List (List ℕ) = get_or cells r [] in
      let high : r < length cells = let same = right_rows view.widths view.heights view.shape cells fits in omega (arith, same) in
      let long : length row ≡ view.shape.1 = right_columns view.widths view.heights view.shape cells fits r [] high in
      let of_rows = none_rest (unless (length cells == view.shape.0) PrintError.RowCount) (flat_map (row_faults view.widths view.heights view.shape.1) (enumerate_from 0 cells)) fits in
      let of_row = none_at (row_faults view.widths view.heights view.shape.1) cells of_rows r [] high in
      none_at (cell_faults view.widths view.heights r) row (none_rest _ _ of_row) c [] (omega (arith, long))

  -- what a cell has in a line of its row
  abbrev piece_of : ℕ → ℕ → ℕ → List ℕ
  piece_of r c k = get_or (pieces (get_or (get_or cells r []) c [])) k []

  plain_tiles : (r c k : ℕ) → r < view.shape.0 → c < view.shape.1 → k < view.heights r → Tile (view.widths c) (piece_of r c k)
  plain_tiles r c k within inside above =
      let text : List ℕ = get_or (get_or cells r []) c [] in
      let fits = fitting view.widths view.heights r c text (omega arith) (no_cell_fault r c within inside) in
      piece_tile (view.widths c) (get_or (pieces text) k []) (IsUtf8-piece k text (utf8 r c))
      (eqb-true _ _ (AllPass-from_list_all (λ piece. width_of_text piece == view.widths c) (pieces text) fits.1 k [] (omega (arith, fits.0)))) (piece_lacks k text) (apart r c k)

  module _ (narrow : HasNarrowBorders view) (some : is_empty view.shape ≡ false) where
    lines_are : text_lines view cells ≡ lines_around view piece_of
    lines_are = ap (λ b. if b then [] else lines_around view piece_of) some

    tiles : All (Tile (table_width view)) (text_lines view cells)
    tiles = subst (All (Tile (table_width view))) (sym lines_are) (lines_tiles view narrow some piece_of plain_tiles)

    pub plain_even : list_all (λ line. width_of_text line == table_width view) (text_lines view cells) ≡ true
    plain_even = each_wide (table_width view) (text_lines view cells) tiles

    pub plain_straight : (c : ℕ) → c ≤ view.shape.1 → view.vertical c ≡ true → StandsStraight view c (text_lines view cells)
    plain_straight c inside drawn = subst (StandsStraight view c) (sym lines_are) (lines_straight view narrow some piece_of plain_tiles c inside drawn)

    pub plain_cut : 0 < length (text_lines view cells) → pieces (join_with_byte 10 (text_lines view cells)) ≡ text_lines view cells
    plain_cut there = cut_lines (text_lines view cells) there (All-weaker (Tile (table_width view)) Lacks (λ line tile. tile.lacks) (text_lines view cells) tiles)

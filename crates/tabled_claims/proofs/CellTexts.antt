-- The characters of a painted table are what the plain printer prints around its cells.
use Rattle.std.proofs.Common.{◌≡◌, ◌==◌, ℕ, ◌<◌, Bool, true, false, if◌then◌else◌, List, [], ◌++◌, map, length, get_or, refl, sym, ap, subst, ◌∙◌, arith}
use Rattle.std.specs.Prelude.{slice_index, slice_index_or}
use Rattle.std.specs.List.{All, flat_map, join_with_byte}
use Rattle.std.proofs.lemmas.Bool.{and_parts, eqb-true}
use Rattle.std.proofs.lemmas.List.Elements.{All-map}
use Rattle.std.proofs.lemmas.List.FromFn.{get_or-map-range_with_len, length-map-range_with_len}
use Rattle.tabled_object.specs.Entities.{below}
use Rattle.tabled_places.specs.declared.place.LineOf.{LineOf}
use Rattle.tabled_layout.specs.declared.margin.Margin.{Margin}
use Rattle.tabled_configuration.specs.Configuration.{ConfigEvent}
use Rattle.tabled_printing.specs.Along.{is_empty}
use Rattle.tabled_printing.specs.Picture.{Look, text_lines, marks_along, line_if_drawn, row_lines}
use Rattle.tabled_width.specs.Texts.{Table, pieces}
use Rattle.tabled_cells.specs.Placements.{placement_at}
use Rattle.tabled_cells.specs.Trimmed.{lines_shown}
use Rattle.tabled_width.proofs.PieceTexts.{cut_lines}
use Rattle.tabled_width.proofs.Tiles.{Lacks}
use Rattle.tabled_cells.proofs.Fits.{placed_at_lacks, settings_lack}
use Rattle.tabled_painting.specs.Painted.{plain}
use Rattle.tabled_painting.specs.CellLines.{coloring_at}
use Rattle.tabled_painting.specs.Margin.{in_margin, is_without_room}
use Rattle.tabled_painting.specs.PaintedTable.{Cells, painted_cells, painted_lines, painted_table}
use Rattle.tabled_painting.proofs.Plain.{ShowsTexts, plain_cell, plain_lines, without_room}
use Rattle.tabled_measure.specs.Sizes.{column_count, column_widths, row_heights}
use Rattle.tabled_measure.specs.Cells.{cells_set, cell_colors}
use Rattle.tabled_text.specs.TextTable.{cell_texts, look_of}

no_lines : (view : Look) (cells : Table) → is_empty view.shape ≡ true → text_lines view cells ≡ []
no_lines view cells empty =
    ap (λ b. if b then [] else flat_map (λ r. line_if_drawn view r ++ row_lines view r (get_or cells r [])) (below view.shape.0) ++ line_if_drawn view view.shape.0) empty

no_room : (margin : Margin) → is_without_room margin ≡ true → (margin.size.left.size ≡ 0) × (margin.size.right.size ≡ 0) × (margin.size.top.size ≡ 0) × (margin.size.bottom.size ≡ 0)
no_room margin none =
    let last = and_parts _ (margin.size.bottom.size == 0) none in
    let third = and_parts _ (margin.size.top.size == 0) last.0 in
    let both = and_parts (margin.size.left.size == 0) (margin.size.right.size == 0) third.0 in
    (eqb-true _ _ both.0, eqb-true _ _ both.1, eqb-true _ _ third.1, eqb-true _ _ last.1)

-- without room on any side the lines are as they are
pub characters_around : (view : Look) (margin : Margin) (cells : Cells) (table : Table) → is_without_room margin ≡ true → ((r : ℕ) → r < view.shape.0 → ShowsTexts view cells r (get_or table r []))
    → map plain (painted_table view margin cells) ≡ text_lines view table
unfolding painted_table
characters_around view margin cells table none shows = by_case (is_empty view.shape) refl
  where
    by_case : (empty : Bool) → is_empty view.shape ≡ empty → map plain (if empty then [] else in_margin margin (length (marks_along view (LineOf.Horizontal 0))) (painted_lines view cells)) ≡ text_lines view table
    by_case true e = sym (no_lines view table e)
    by_case false e =
        let room = no_room margin none in
        ap (map plain) (without_room margin (length (marks_along view (LineOf.Horizontal 0))) (painted_lines view cells) room.0 room.1 room.2 room.3) ∙ plain_lines view cells table e shows

-- the lines of a cell are the pieces of its text
pub cells_show : (es : List ConfigEvent) (table : Table) (r : ℕ) → r < length table
    → ShowsTexts (look_of es table) (painted_cells (cells_set es) (cell_colors es) (column_widths table) (row_heights table) table) r (get_or (cell_texts es table) r [])
unfolding cell_texts
cells_show es table r within k c above inside =
    let cells : Cells = painted_cells (cells_set es) (cell_colors es) (column_widths table) (row_heights table) table in
    let height : ℕ = slice_index (row_heights table) r in
    let line : ℕ → List ℕ = λ n. plain (cells r c n) in
    let lines : List (List ℕ) = map line (below height) in
    let how = placement_at (cells_set es) r c in
    let text : List ℕ = slice_index_or (slice_index_or table r []) c [] in
    let long : length lines ≡ height = length-map-range_with_len line 0 height in
    let lacks : All Lacks lines = All-map Lacks line (below height) (λ n d inside.
    subst Lacks (sym (plain_cell how (coloring_at (cells_set es) (cell_colors es) r c) (slice_index (column_widths table) c) height (lines_shown how text) (get_or (below height) n d)))
    (placed_at_lacks how (slice_index (column_widths table) c) height text (get_or (below height) n d) (settings_lack (cells_set es) r c))) in
    let cell : ℕ → List ℕ = λ n. join_with_byte 10 (map (λ m. plain (cells r n m)) (below height)) in
    let row : ℕ → List (List ℕ) = λ n. map (λ m. join_with_byte 10 (map (λ i. plain (cells n m i)) (below (slice_index (row_heights table) n)))) (below (column_count table)) in
    sym (get_or-map-range_with_len line 0 height k k [] above (omega arith))
    ∙ ap (λ ps. get_or ps k []) (sym (cut_lines lines (omega (arith, long, above)) lacks))
    ∙ ap (λ bs. get_or (pieces bs) k []) (sym (get_or-map-range_with_len cell 0 (column_count table) c c [] inside (omega arith)))
    ∙ ap (λ texts. get_or (pieces (get_or texts c [])) k []) (sym (get_or-map-range_with_len row 0 (length table) r r [] within (omega arith)))

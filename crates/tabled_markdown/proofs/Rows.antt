-- What is written of rows is read as these rows.
use Rattle.std.proofs.Common.{◌≡◌, ◌<◌, ℕ, length, map-id, arith, not, cond, List, [], ◌∷◌, ◌++◌, map, append_assoc, append-nil, refl, sym, ap, ◌∙◌}
use Rattle.std.specs.Prelude.{slice_index_or}
use Rattle.std.specs.List.{flat_map, join_with_byte, list_all, onto_first, slice_split}
use Rattle.std.proofs.lemmas.Bool.{and_from, and_parts, not-true}
use Rattle.std.proofs.lemmas.List.Folds.{list_all-append}
use Rattle.tabled_markdown.specs.declared.table.Side.{Side}
use Rattle.tabled_markdown.specs.declared.table.Side.TheVariants.{Plain, Left, Center, Right}
use Rattle.tabled_markdown.specs.Source.{escaped}
use Rattle.tabled_markdown.specs.Reading.{before_blanks, after_blanks, first_sign, read_on, read_text, read_cell, read_row, parts, is_line_end, but_second, read_lines, read_rows, read_side, read_sides}
use Rattle.tabled_markdown.specs.Table.{delimiter, fitted, fitted_sides, in_cell, line_of, row_line, side_line, markdown}
use Rattle.tabled_markdown.proofs.Signs.{IsOneLine, Stands, escaped_stands, escaped_trimmed, bare_passes}

-- ---- a cell

record IsCell (text source : List ℕ) : Type 0 where
  stands : Stands text source
  trimmed : before_blanks (after_blanks (32 ∷ (source ++ 32 ∷ []))) ≡ source

escaped_cell : (text : List ℕ) → IsCell text (escaped text)
escaped_cell text = record { stands = escaped_stands text; trimmed = escaped_trimmed text }

delimiter_cell : (side : Side) → IsCell (delimiter side) (delimiter side)
unfolding first_sign
delimiter_cell Plain = record { stands = record { reads = λ rest. refl; passes = bare_passes (delimiter Plain) refl; one_line = refl }; trimmed = refl }
delimiter_cell Left = record { stands = record { reads = λ rest. refl; passes = bare_passes (delimiter Left) refl; one_line = refl }; trimmed = refl }
delimiter_cell Center = record { stands = record { reads = λ rest. refl; passes = bare_passes (delimiter Center) refl; one_line = refl }; trimmed = refl }
delimiter_cell Right = record { stands = record { reads = λ rest. refl; passes = bare_passes (delimiter Right) refl; one_line = refl }; trimmed = refl }

pub source_read : (text : List ℕ) → read_text (escaped text) ≡ text
source_read text = ap (read_on 0) (sym (append-nil (escaped text))) ∙ (escaped_stands text).reads [] ∙ append-nil text

cell_read : (text source : List ℕ) → IsCell text source → read_cell (32 ∷ (source ++ 32 ∷ [])) ≡ text
cell_read text source is = ap read_text is.trimmed ∙ ap (read_on 0) (sym (append-nil source)) ∙ is.stands.reads [] ∙ append-nil text

-- ---- a line

one_part : (text source rest : List ℕ) → Stands text source → parts 124 (in_cell source ++ rest) ≡ (32 ∷ (source ++ 32 ∷ [])) ∷ parts 124 rest
one_part text source rest stands =
    ap (λ bs. onto_first 32 (parts 32 bs)) (append_assoc source (32 ∷ 124 ∷ []) rest)
    ∙ ap (onto_first 32) (stands.passes (32 ∷ []) (parts 124 rest) (32 ∷ 124 ∷ rest) (λ before. refl) 32)

module _ {X : Type 0} (text source : X → List ℕ) (are : (x : X) → IsCell (text x) (source x)) where
  cells_read : (xs : List X) → map read_cell (parts 124 (flat_map in_cell (map source xs))) ≡ map text xs
  cells_read [] = refl
  cells_read (x ∷ xs) =
      ap (map read_cell) (one_part (text x) (source x) (flat_map in_cell (map source xs)) (are x).stands)
      ∙ (λ i. cell_read (text x) (source x) (are x) i ∷ cells_read xs i)

  line_read : (xs : List X) → read_row (line_of (map source xs)) ≡ map text xs
  unfolding read_row
  line_read xs = cells_read xs

  cells_on_line : (xs : List X) → IsOneLine (flat_map in_cell (map source xs))
  cells_on_line [] = refl
  cells_on_line (x ∷ xs) =
      list_all-append (λ c. not (is_line_end c)) (in_cell (source x)) (flat_map in_cell (map source xs))
      ∙ and_from _ _ (list_all-append (λ c. not (is_line_end c)) (source x) (32 ∷ 124 ∷ []) ∙ and_from _ _ (are x).stands.one_line refl) (cells_on_line xs)

row_read : (count : ℕ) (row : List (List ℕ)) → read_row (row_line count row) ≡ fitted count row
row_read count row = line_read (λ text. text) escaped escaped_cell (fitted count row) ∙ map-id (fitted count row)

row_on_line : (count : ℕ) (row : List (List ℕ)) → IsOneLine (row_line count row)
row_on_line count row = cells_on_line (λ text. text) escaped escaped_cell (fitted count row)

sides_read : (count : ℕ) (sides : List Side) → read_row (side_line count sides) ≡ map delimiter (fitted_sides count sides)
sides_read count sides = line_read delimiter delimiter delimiter_cell (fitted_sides count sides)

sides_on_line : (count : ℕ) (sides : List Side) → IsOneLine (side_line count sides)
sides_on_line count sides = cells_on_line delimiter delimiter delimiter_cell (fitted_sides count sides)

-- ---- lines

cut_line : (line more : List ℕ) → IsOneLine line → slice_split is_line_end (line ++ 10 ∷ more) ≡ line ∷ slice_split is_line_end more
cut_line [] more e = refl
cut_line (c ∷ line) more e =
    let both = and_parts (not (is_line_end c)) (list_all (λ b. not (is_line_end b)) line) e in
    ap (λ b. cond b ([] ∷ slice_split is_line_end (line ++ 10 ∷ more)) (onto_first c (slice_split is_line_end (line ++ 10 ∷ more)))) (not-true (is_line_end c) both.0)
    ∙ ap (onto_first c) (cut_line line more both.1)

last_line : (line : List ℕ) → IsOneLine line → slice_split is_line_end line ≡ line ∷ []
last_line [] e = refl
last_line (c ∷ line) e =
    let both = and_parts (not (is_line_end c)) (list_all (λ b. not (is_line_end b)) line) e in
    ap (λ b. cond b ([] ∷ slice_split is_line_end line) (onto_first c (slice_split is_line_end line))) (not-true (is_line_end c) both.0)
    ∙ ap (onto_first c) (last_line line both.1)

abbrev AreLines : List (List ℕ) → Type 0
AreLines [] = Unit {0}
AreLines (line ∷ lines) = IsOneLine line × AreLines lines

lines_cut : (first : List ℕ) (more : List (List ℕ)) → IsOneLine first → AreLines more → slice_split is_line_end (join_with_byte 10 (first ∷ more)) ≡ first ∷ more
lines_cut first [] e es = last_line first e
lines_cut first (next ∷ more) e es = cut_line first (join_with_byte 10 (next ∷ more)) e ∙ ap (λ lines. first ∷ lines) (lines_cut next more es.0 es.1)

rows_on_lines : (count : ℕ) (rows : List (List (List ℕ))) → AreLines (map (row_line count) rows)
rows_on_lines count [] = tt
rows_on_lines count (row ∷ rows) = (row_on_line count row, rows_on_lines count rows)

others_read : (count : ℕ) (rows : List (List (List ℕ))) → map read_row (map (row_line count) rows) ≡ map (fitted count) rows
others_read count [] = refl
others_read count (row ∷ rows) = λ i. row_read count row i ∷ others_read count rows i

-- ---- the table

table_read : (count : ℕ) (sides : List Side) (first : List (List ℕ)) (more : List (List (List ℕ)))
    → read_lines (markdown count sides (first ∷ more)) ≡ fitted count first ∷ map delimiter (fitted_sides count sides) ∷ map (fitted count) more
unfolding markdown
table_read count sides first more =
    ap (map read_row) (lines_cut (row_line count first) (side_line count sides ∷ map (row_line count) more) (row_on_line count first) (sides_on_line count sides, rows_on_lines count more))
    ∙ (λ i. row_read count first i ∷ sides_read count sides i ∷ others_read count more i)

pub rows_read_back : (count : ℕ) (sides : List Side) (rows : List (List (List ℕ))) → read_rows (markdown count sides rows) ≡ map (fitted count) rows
unfolding read_rows markdown
rows_read_back count sides [] = refl
rows_read_back count sides (first ∷ more) = ap but_second (table_read count sides first more)

side_read : (side : Side) → read_side (delimiter side) ≡ side
side_read Plain = refl
side_read Left = refl
side_read Center = refl
side_read Right = refl

each_side_read : (sides : List Side) → map read_side (map delimiter sides) ≡ sides
each_side_read [] = refl
each_side_read (side ∷ sides) = λ i. side_read side i ∷ each_side_read sides i

pub sides_read_back : (count : ℕ) (sides : List Side) (rows : List (List (List ℕ))) → 0 < length rows → read_sides (markdown count sides rows) ≡ fitted_sides count sides
unfolding read_sides
sides_read_back count sides [] some = absurd (omega arith)
sides_read_back count sides (first ∷ more) some =
    ap (λ rows. map read_side (slice_index_or rows 1 [])) (table_read count sides first more) ∙ each_side_read (fitted_sides count sides)

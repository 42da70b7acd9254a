-- The cells between runs of blanks are texts where they are read from one.
use Rattle.std.proofs.Common.{◌≡◌, ◌==◌, ℕ, zero, suc, ◌+◌, ◌-◌, ◌<◌, ◌≤◌, not, Bool, true, false, if◌then◌else◌, List, [], ◌∷◌, drop, get_or, length, lit<, Option, Some, None, refl, sym, subst, arith, take}
use Rattle.std.specs.List.{All, list_all, position, prefix_len, slice_split, suffix_len}
use Rattle.std.specs.Str.{IsUtf8}
use Rattle.std.specs.Str.Lines.{lines, lines_of_parts, strip_carriage_return}
use Rattle.std.proofs.lemmas.Bool.{eqb-true}
use Rattle.std.proofs.lemmas.List.{length-drop}
use Rattle.std.proofs.lemmas.List.Elements.{All-cons, All-filter, All-head, All-map, All-nil, All-tail}
use Rattle.std.proofs.lemmas.Str.{IsCharBoundary-before_ascii, IsUtf8-drop, IsUtf8-take}
use Rattle.tabled_input.specs.Spaced.{after_cell, cell_len, cells_of_line, columns_in, first_cell, from_word, has_wide, is_blank, spaced, to_word, word_lines}
use Rattle.tabled_input.proofs.Cuts.{after, before, in_two, inside, whole}
use Rattle.tabled_input.proofs.Edges.{after_blanks, at_stop}
use Rattle.tabled_input.proofs.Kept.{blank_after}
use Rattle.tabled_input.proofs.WideCells.{after_first}

-- ---- lines

-- the parts of a text between separators of ASCII
pub parts_are_texts : (separator : ℕ) → separator < 128 → (text : List ℕ) → IsUtf8 text → All IsUtf8 (slice_split (λ b. b == separator) text)
parts_are_texts separator ascii text read = of_length (length text) text (omega arith) read
  where
    is_one : ℕ → Bool
    is_one b = b == separator

    by : (text : List ℕ) → ((rest : List ℕ) → length rest < length text → IsUtf8 rest → All IsUtf8 (slice_split is_one rest)) → IsUtf8 text
        → (found : Option ℕ) → position is_one text ≡ found → All IsUtf8 (slice_split is_one text)
    by text more read None e = subst (All IsUtf8) (sym (whole separator text e)) (All-cons IsUtf8 text [] read (All-nil IsUtf8))
    by text more read (Some at) e =
        let first = IsUtf8-take text at read (before separator text at e ascii) in
        let rest = IsUtf8-drop text (at + 1) read (after separator text at e read ascii) in
        let shorter : length (drop (at + 1) text) < length text = omega (arith, length-drop (at + 1) text, inside separator text at e) in
        subst (All IsUtf8) (sym (in_two separator text at e)) (All-cons IsUtf8 (take at text) (slice_split is_one (drop (at + 1) text)) first (more (drop (at + 1) text) shorter rest))

    of_length : (most : ℕ) (text : List ℕ) → length text ≤ most → IsUtf8 text → All IsUtf8 (slice_split is_one text)
    of_length zero text short read = by text (λ rest shorter. absurd (omega arith)) read (position is_one text) refl
    of_length (suc most) text short read = by text (λ rest shorter. of_length most rest (omega arith)) read (position is_one text) refl

stripped_text : (line : List ℕ) → IsUtf8 line → IsUtf8 (strip_carriage_return line)
stripped_text [] text = text
stripped_text (b ∷ bytes) text = by (length (b ∷ bytes) - 1) _ (omega arith) refl
  where
    by : (last : ℕ) (is : Bool) → last ≡ length bytes → (get_or (b ∷ bytes) last 0 == 13) ≡ is → IsUtf8 (if is then take last (b ∷ bytes) else b ∷ bytes)
    by last true same e =
        let here = eqb-true (get_or (b ∷ bytes) last 0) 13 e in
        IsUtf8-take (b ∷ bytes) last text (IsCharBoundary-before_ascii (b ∷ bytes) last (omega arith) (omega (arith, here)))
    by last false same e = text

pub lines_are_texts : (parts : List (List ℕ)) → All IsUtf8 parts → All IsUtf8 (lines_of_parts parts)
lines_are_texts [] all = All-nil IsUtf8
lines_are_texts (part ∷ []) all = by (length part == 0)
  where
    by : (b : Bool) → All IsUtf8 (if b then [] else part ∷ [])
    by true = All-nil IsUtf8
    by false = all
lines_are_texts (part ∷ next ∷ parts) all =
    All-cons IsUtf8 (strip_carriage_return part) (lines_of_parts (next ∷ parts)) (stripped_text part (All-head IsUtf8 part (next ∷ parts) all))
    (lines_are_texts (next ∷ parts) (All-tail IsUtf8 part (next ∷ parts) all))

pub lines_of_text : (text : List ℕ) → IsUtf8 text → All IsUtf8 (lines text)
lines_of_text text read = lines_are_texts (slice_split (λ b. b == 10) text) (parts_are_texts 10 (lit< tt) text read)

-- ---- cells

text_from_word : (line : List ℕ) → IsUtf8 line → IsUtf8 (from_word line)
text_from_word line read = IsUtf8-drop line (prefix_len is_blank line) read (after_blanks line read)

text_to_word : (line : List ℕ) → IsUtf8 line → IsUtf8 (to_word line)
text_to_word line read =
    let end = length line - suffix_len is_blank line in
    IsUtf8-take line end read (at_stop line end (omega arith, blank_after line end (omega arith)))

cells_are_texts : (is_wide : Bool) (columns : ℕ) (line : List ℕ) → IsUtf8 line → All IsUtf8 (cells_of_line is_wide columns line)
unfolding cells_of_line
cells_are_texts is_wide zero line read = All-nil IsUtf8
cells_are_texts is_wide (suc zero) line read = All-cons IsUtf8 (to_word (from_word line)) [] (text_to_word (from_word line) (text_from_word line read)) (All-nil IsUtf8)
cells_are_texts is_wide (suc (suc more)) line read =
    let rest = text_from_word line read in
    let edge = after_first is_wide (from_word line) in
    let len = cell_len is_wide (from_word line) in
    All-cons IsUtf8 (first_cell is_wide line) (cells_of_line is_wide (suc more) (after_cell is_wide line)) (IsUtf8-take (from_word line) len rest edge)
    (cells_are_texts is_wide (suc more) (after_cell is_wide line) (IsUtf8-drop (from_word line) len rest edge))

-- ---- rows

pub spaced_texts : (text : List ℕ) → IsUtf8 text → All (All IsUtf8) (spaced text)
unfolding spaced
spaced_texts text read =
    let each = All-filter (λ line. not (list_all is_blank line)) IsUtf8 (lines text) (lines_of_text text read) in
    All-map (All IsUtf8) (cells_of_line (has_wide text) (columns_in text)) (word_lines text)
    (λ k d within. cells_are_texts (has_wide text) (columns_in text) (get_or (word_lines text) k d) (each k d within))

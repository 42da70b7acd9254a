-- Spaced rows have no more cells than the text has bytes.
use Rattle.std.proofs.Common.{◌≡◌, ◌==◌, ◌&&◌, ℕ, ◌*◌, ◌/◌, ◌≤◌, max, Bool, true, false, not, nat_lt, cond, List, [], ◌∷◌, chars, map, length, get_or, refl, ap, arith}
use Rattle.std.proofs.Math.Nat.{mul-div-le}
use Rattle.std.specs.List.{All, list_all, range_with_len, slice_split, sum_by}
use Rattle.std.specs.Str.{IsUtf8}
use Rattle.std.specs.Str.Lines.{lines, lines_of_parts, strip_carriage_return}
use Rattle.std.proofs.lemmas.Bool.{and_parts}
use Rattle.std.proofs.lemmas.Bool.Decides.{Decides-eqb}
use Rattle.std.proofs.lemmas.Grind.{common_steps}
use Rattle.std.proofs.lemmas.List.{length-map}
use Rattle.std.proofs.lemmas.List.Elements.{All-filter, All-head, All-map, All-tail, filter_passes}
use Rattle.std.proofs.lemmas.List.Filters.{sum_by-filter_both}
use Rattle.std.proofs.lemmas.List.FromFn.{length-range_with_len}
use Rattle.std.proofs.lemmas.List.Sums.{AllPass-from_list_all, count_by-le-length, length-filter, sum_by-le}
use Rattle.std.proofs.lemmas.Nat.{mul-le}
use Rattle.std.proofs.lemmas.Slice.Eq.{slice_eq-Decides}
use Rattle.std.proofs.lemmas.Str.{encodes-chars, length-le-encodes}
use Rattle.tabled_input.specs.Spaced.{begin_at, begins_wide, cells_of_line, columns_in, has_wide, is_blank, spaced, wide_count, wide_places, word_columns, word_lines}
use Rattle.tabled_input.proofs.Even.{length-cells_of_line}
use Rattle.tabled_input.proofs.SpacedTexts.{lines_of_text}

-- ---- the bytes of lines

-- lines that have so many bytes each, at least
at_least : (most : ℕ) (lines : List (List ℕ)) → All (λ line. most ≤ length line) lines → length lines * most ≤ sum_by length lines
at_least most [] all = omega arith
at_least most (line ∷ lines) all = grind (arith, common_steps, at_least most lines (All-tail (λ line. most ≤ length line) line lines all), All-head (λ line. most ≤ length line) line lines all)

parts_within : (text : List ℕ) → sum_by length (slice_split (λ b. b == 10) text) ≤ length text
parts_within [] = omega arith
parts_within (c ∷ text) = grind (arith, common_steps, parts_within text)

stripped_within : (line : List ℕ) → length (strip_carriage_return line) ≤ length line
stripped_within line = grind (arith, common_steps)

lines_within : (parts : List (List ℕ)) → sum_by length (lines_of_parts parts) ≤ sum_by length parts
lines_within [] = omega arith
lines_within (part ∷ []) = grind (arith, common_steps)
lines_within (part ∷ next ∷ parts) = grind (arith, common_steps, stripped_within part, lines_within (next ∷ parts))

pub words_within : (text : List ℕ) → sum_by length (word_lines text) ≤ length text
words_within text =
    let is_full : List ℕ → Bool = λ line. not (list_all is_blank line) in
    omega (arith, parts_within text, lines_within (slice_split (λ b. b == 10) text), sum_by-filter_both is_full (λ line. not (is_full line)) (λ _. refl) length (lines text))

-- ---- the lines of a text

has_byte : (line : List ℕ) → not (list_all is_blank line) ≡ true → 1 ≤ length line
has_byte [] e = absurd cc
has_byte (c ∷ line) e = omega arith

-- each has a byte at least
lines_within_bytes : (text : List ℕ) → length (word_lines text) ≤ length text
lines_within_bytes text =
    omega (
      arith,
      words_within text,
      at_least 1 (word_lines text) (λ k d within. has_byte (get_or (word_lines text) k d) (filter_passes (λ line. not (list_all is_blank line)) (lines text) k d within)),
    )

-- and as many as it has wide cells
places_within : (line : List ℕ) → IsUtf8 line → length (wide_places line) ≤ length line
places_within line read =
    let all = range_with_len 0 (length (chars line)) in
    omega (
      arith,
      length-filter (begins_wide (chars line)) all,
      count_by-le-length (begins_wide (chars line)) all,
      length-range_with_len 0 (length (chars line)),
      length-le-encodes (chars line),
      ap length (encodes-chars line read),
    )

wide_within : (text : List ℕ) → IsUtf8 text → All (λ line. wide_count (word_lines text) ≤ length line) (word_lines text)
unfolding wide_count
wide_within text read k d within = by (nat_lt 1 (length places) && list_all (begin_at places) all) refl
  where
    all : List (List ℕ)
    all = word_lines text

    places : List ℕ
    places = get_or (map wide_places all) 0 []

    line : List ℕ
    line = get_or all k d

    by : (b : Bool) → (nat_lt 1 (length places) && list_all (begin_at places) all) ≡ b → cond b (length places) 0 ≤ length line
    by true e =
        let begins = AllPass-from_list_all (begin_at places) all (and_parts (nat_lt 1 (length places)) (list_all (begin_at places) all) e).1 k d within in
        let same = (slice_eq-Decides Decides-eqb (wide_places line) places (begin_at places line) refl).0 begins in
        let utf8 = All-filter (λ line. not (list_all is_blank line)) IsUtf8 (lines text) (lines_of_text text read) k d within in
        omega (arith, places_within line utf8, ap length same)
    by false e = omega arith

-- ---- the cells

as_many : (columns most count bytes : ℕ) → columns ≤ max 1 most → count ≤ bytes → count * most ≤ bytes → count * columns ≤ bytes
as_many columns most count bytes few some all = grind (arith, common_steps, mul-le)

columns_within : (text : List ℕ) → IsUtf8 text → length (word_lines text) * columns_in text ≤ length text
columns_within text read = by (has_wide text)
  where
    count : ℕ
    count = length (word_lines text)

    by : (b : Bool) → count * cond b (wide_count (word_lines text)) (word_columns text) ≤ length text
    by true = omega (arith, at_least (wide_count (word_lines text)) (word_lines text) (wide_within text read), words_within text)
    by false = as_many (word_columns text) (length text / count) count (length text) (omega arith) (lines_within_bytes text) (mul-div-le (length text) count)

pub spaced_bounded : (text : List ℕ) → IsUtf8 text → sum_by length (spaced text) ≤ length text
unfolding spaced
spaced_bounded text read =
    let cut = cells_of_line (has_wide text) (columns_in text) in
    let each = All-map (λ (row : List (List ℕ)). length row ≤ columns_in text) cut (word_lines text) (λ k d within. omega (arith, length-cells_of_line (has_wide text) (columns_in text) (get_or (word_lines text) k d))) in
    omega (arith, columns_within text read, sum_by-le length (columns_in text) (map cut (word_lines text)) each, ap (λ n. n * columns_in text) (length-map (word_lines text) cut))

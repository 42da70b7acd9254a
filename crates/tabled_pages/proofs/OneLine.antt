-- The cells of an input whose bytes are allowed have printable characters alone: one line each, whose bytes take one column each.
use Rattle.std.proofs.Common.{◌≡◌, ℕ, ◌+◌, ◌<◌, zero, suc, max, fold, Bool, true, false, not, ◌&&◌, ◌||◌, cond, eqb, List, [], ◌∷◌, map, length, get_or, refl, ap, ◌∙◌, arith}
use Rattle.std.specs.List.{slice_split, onto_first, list_all}
use Rattle.std.specs.Int.{is_in_range}
use Rattle.std.proofs.lemmas.Bool.{and_parts, and_from}
use Rattle.std.proofs.lemmas.Bool.Decides.{nat_tests}
use Rattle.std.proofs.lemmas.List.Splits.{slice_split_none}
use Rattle.std.proofs.lemmas.List.Sums.{AllPass-from_list_all}
use Rattle.std.proofs.lemmas.Str.{chars-IsAscii}
use Rattle.std.proofs.lemmas.Str.Ascii.{IsAscii-from_all}
use Rattle.unicode_width.specs.Width.{str_width}
use Rattle.unicode_width.proofs.Rules.{str_width-printable}
use Rattle.tabled_object.specs.Entities.{below}
use Rattle.tabled_width.specs.Texts as printer
use Rattle.tabled_width.specs.Texts.{Table}
use Rattle.tabled_measure.specs.Sizes.{cell, column_count, column_width, column_widths, greatest, width_asked, height_asked, row_height, row_heights}
use Rattle.tabled_pages.specs.declared.bytes.TheConstants.{TAB, LINE_FEED, FIRST_PRINTABLE, LAST_PRINTABLE}
use Rattle.tabled_pages.specs.Input.{is_byte, without_empty_last, lines_of, cells_of, rows_of, is_allowed}
use Rattle.tabled_pages.proofs.Lines.{pieces-some}

-- a printable character of ASCII
abbrev pub is_printable : ℕ → Bool
is_printable = is_in_range FIRST_PRINTABLE LAST_PRINTABLE

module _ (kept cut : ℕ → Bool) where
  -- what a byte of a piece passes: the test of the text, and that it is none at which the text is cut
  abbrev inside : ℕ → Bool
  inside b = kept b && not (cut b)

  onto_first-inside : (b : ℕ) (ps : List (List ℕ)) → inside b ≡ true → list_all (list_all inside) ps ≡ true
      → list_all (list_all inside) (onto_first b ps) ≡ true
  onto_first-inside b [] here rest = and_from (inside b && true) true (and_from (inside b) true here refl) refl
  onto_first-inside b (x ∷ xs) here rest =
      let parts = and_parts (list_all inside x) (list_all (list_all inside) xs) rest in
      and_from (inside b && list_all inside x) _ (and_from (inside b) _ here parts.0) parts.1

  cut_or_kept : (b : ℕ) (ps : List (List ℕ)) (c : Bool) → cut b ≡ c → kept b ≡ true → list_all (list_all inside) ps ≡ true
      → list_all (list_all inside) (cond c ([] ∷ ps) (onto_first b ps)) ≡ true
  cut_or_kept b ps true e here rest = rest
  cut_or_kept b ps false e here rest = onto_first-inside b ps (and_from (kept b) _ here (ap not e)) rest

  slice_split-inside : (text : List ℕ) → list_all kept text ≡ true → list_all (list_all inside) (slice_split cut text) ≡ true
  slice_split-inside [] h = refl
  slice_split-inside (b ∷ bs) h =
      let parts = and_parts (kept b) (list_all kept bs) h in
      cut_or_kept b (slice_split cut bs) (cut b) refl parts.0 (slice_split-inside bs parts.1)

without_empty_last-all : (p : List ℕ → Bool) (ps : List (List ℕ)) → list_all p ps ≡ true → list_all p (without_empty_last ps) ≡ true
without_empty_last-all p [] h = refl
without_empty_last-all p ([] ∷ []) h = refl
without_empty_last-all p ((b ∷ bs) ∷ []) h = h
without_empty_last-all p ([] ∷ q ∷ ps) h =
    let parts = and_parts (p []) (list_all p (q ∷ ps)) h in
    and_from (p []) _ parts.0 (without_empty_last-all p (q ∷ ps) parts.1)
without_empty_last-all p ((b ∷ bs) ∷ q ∷ ps) h =
    let parts = and_parts (p (b ∷ bs)) (list_all p (q ∷ ps)) h in
    and_from (p (b ∷ bs)) _ parts.0 (without_empty_last-all p (q ∷ ps) parts.1)

-- where each element that passes p passes q, so it is of a list
list_all-weaker : {X : Type 0} (p q : X → Bool) → ((x : X) → p x ≡ true → q x ≡ true) → (xs : List X) → list_all p xs ≡ true → list_all q xs ≡ true
list_all-weaker p q so [] h = refl
list_all-weaker p q so (x ∷ xs) h =
    let parts = and_parts (p x) (list_all p xs) h in and_from (q x) _ (so x parts.0) (list_all-weaker p q so xs parts.1)

list_all-mapped : {X Y : Type 0} (p : X → Bool) (q : Y → Bool) (f : X → Y) → ((x : X) → p x ≡ true → q (f x) ≡ true) → (xs : List X) → list_all p xs ≡ true
    → list_all q (map f xs) ≡ true
list_all-mapped p q f so [] h = refl
list_all-mapped p q f so (x ∷ xs) h =
    let parts = and_parts (p x) (list_all p xs) h in and_from (q (f x)) _ (so x parts.0) (list_all-mapped p q f so xs parts.1)

-- an allowed byte that is no tab and no line feed is printable
remaining : (printable tab line_feed : Bool) → (((printable || tab || line_feed) && not line_feed) && not tab) ≡ true → printable ≡ true
remaining true tab line_feed h = refl
remaining false true true h = h
remaining false true false h = h
remaining false false true h = h
remaining false false false h = h

-- each byte of each cell of each row
abbrev pub are_printable : Table → Bool
are_printable rows = list_all (list_all (list_all is_printable)) rows

pub are_printable-rows : (input : List ℕ) → list_all is_allowed input ≡ true → are_printable (rows_of input) ≡ true
unfolding lines_of
are_printable-rows input h =
    let in_line = inside is_allowed (is_byte LINE_FEED) in
    let lines = without_empty_last-all (list_all in_line) (slice_split (is_byte LINE_FEED) input) (slice_split-inside is_allowed (is_byte LINE_FEED) input h) in
    list_all-mapped (list_all in_line) (list_all (list_all is_printable)) cells_of (λ line ok.
    list_all-weaker (list_all (inside in_line (is_byte TAB))) (list_all is_printable) (λ piece.
    list_all-weaker (inside in_line (is_byte TAB)) is_printable (λ b. remaining (is_printable b) (is_byte TAB b) (is_byte LINE_FEED b)) piece)
    (cells_of line) (slice_split-inside in_line (is_byte TAB) line ok))
    (lines_of input) lines

-- an element of a list, or the default, which passes too
pub list_all-get_or : {X : Type 0} (p : X → Bool) (xs : List X) (i : ℕ) (d : X) → list_all p xs ≡ true → p d ≡ true → p (get_or xs i d) ≡ true
list_all-get_or p [] i d h none = none
list_all-get_or p (x ∷ xs) zero d h none = (and_parts (p x) (list_all p xs) h).0
list_all-get_or p (x ∷ xs) (suc i) d h none = list_all-get_or p xs i d (and_parts (p x) (list_all p xs) h).1 none

no_line_feed : (b : ℕ) → is_printable b ≡ true → eqb b 10 ≡ false
no_line_feed b h = grind (arith, nat_tests)

below_128 : (b : ℕ) → is_printable b ≡ true → b < 128
below_128 b h = grind (arith, nat_tests)

-- a text without line feeds is one piece
one_piece : (text : List ℕ) → list_all is_printable text ≡ true → printer.pieces text ≡ text ∷ []
one_piece text h =
    let pass = AllPass-from_list_all is_printable text h in
    slice_split_none (λ b. eqb b 10) text (λ k d within. no_line_feed (get_or text k d) (pass k d within))

-- its characters are its bytes, and each takes one column
width-printable : (text : List ℕ) → list_all is_printable text ≡ true → printer.width_of_text text ≡ length text
width-printable text h =
    let pass = AllPass-from_list_all is_printable text h in
    let ascii = IsAscii-from_all text (λ k d within. below_128 (get_or text k d) (pass k d within)) in
    ap (str_width false) (chars-IsAscii text ascii) ∙ str_width-printable false text h

one_high : (text : List ℕ) → list_all is_printable text ≡ true → height_asked text ≡ 1
one_high text h = ap length (one_piece text h)

two_wider : (text : List ℕ) → list_all is_printable text ≡ true → width_asked text ≡ length text + 2
unfolding width_asked
two_wider text h =
    ap (λ ps. greatest (map printer.width_of_text ps) + 2) (one_piece text h) ∙ omega (arith, width-printable text h)

-- the greatest of ones
still_one : (row : List (List ℕ)) → list_all (list_all is_printable) row ≡ true → fold max 1 (map height_asked row) ≡ 1
still_one [] h = refl
still_one (x ∷ xs) h =
    let parts = and_parts (list_all is_printable x) (list_all (list_all is_printable) xs) h in
    ap (λ (n : ℕ). fold max n (map height_asked xs)) (omega (arith, one_high x parts.0)) ∙ still_one xs parts.1

row_one_high : (row : List (List ℕ)) → 0 < length row → list_all (list_all is_printable) row ≡ true → row_height row ≡ 1
unfolding row_height
row_one_high [] some h = absurd (omega arith)
row_one_high (x ∷ xs) some h =
    let parts = and_parts (list_all is_printable x) (list_all (list_all is_printable) xs) h in
    ap (λ (n : ℕ). fold max n (map height_asked xs)) (omega (arith, one_high x parts.0)) ∙ still_one xs parts.1

lines_one_high : (lines : List (List ℕ)) → are_printable (map cells_of lines) ≡ true → row_heights (map cells_of lines) ≡ map (λ row. 1) (map cells_of lines)
lines_one_high [] h = refl
lines_one_high (line ∷ lines) h =
    let parts = and_parts (list_all (list_all is_printable) (cells_of line)) (are_printable (map cells_of lines)) h in
    ap (λ n. n ∷ row_heights (map cells_of lines)) (row_one_high (cells_of line) (pieces-some TAB line) parts.0)
    ∙ ap (λ rest. 1 ∷ rest) (lines_one_high lines parts.1)

pub heights_one : (input : List ℕ) → list_all is_allowed input ≡ true → row_heights (rows_of input) ≡ map (λ row. 1) (rows_of input)
heights_one input h = lines_one_high (lines_of input) (are_printable-rows input h)

cells_two_wider : (rows : Table) → are_printable rows ≡ true → (col : ℕ) → map (λ row. width_asked (cell row col)) rows ≡ map (λ row. length (cell row col) + 2) rows
cells_two_wider [] h col = refl
cells_two_wider (row ∷ rows) h col =
    let parts = and_parts (list_all (list_all is_printable) row) (are_printable rows) h in
    ap (λ n. n ∷ map (λ row. width_asked (cell row col)) rows) (two_wider (cell row col) (list_all-get_or (list_all is_printable) row col [] parts.0 refl))
    ∙ ap (λ rest. (length (cell row col) + 2) ∷ rest) (cells_two_wider rows parts.1 col)

map-same : {A B : Type 0} (f g : A → B) → ((x : A) → f x ≡ g x) → (xs : List A) → map f xs ≡ map g xs
map-same f g same [] = refl
map-same f g same (x ∷ xs) = ap (λ y. y ∷ map f xs) (same x) ∙ ap (λ rest. g x ∷ rest) (map-same f g same xs)

pub widths_by_bytes : (input : List ℕ) → list_all is_allowed input ≡ true
    → column_widths (rows_of input) ≡ map (λ col. greatest (map (λ row. length (cell row col) + 2) (rows_of input))) (below (column_count (rows_of input)))
unfolding column_widths
widths_by_bytes input h =
    map-same (column_width (rows_of input)) (λ col. greatest (map (λ row. length (cell row col) + 2) (rows_of input)))
    (λ col. ap greatest (cells_two_wider (rows_of input) (are_printable-rows input h) col)) (below (column_count (rows_of input)))

-- The cells of an input are texts where it is one.
use Rattle.std.proofs.Common.{◌≡◌, ◌==◌, ◌&&◌, ℕ, ◌<◌, ◌≤◌, nat_lt, not, Bool, true, false, if◌then◌else◌, List, [], ◌∷◌, ◌++◌, length, get_or, chars, encode_utf8, append-nil, refl, sym, subst, arith, ⊎_elim}
use Rattle.std.specs.List.{slice_index}
use Rattle.std.specs.List.{All, filter, slice_split}
use Rattle.std.specs.Str.{IsUtf8}
use Rattle.std.specs.Str.Lines.{lines}
use Rattle.std.proofs.Math.Utf8.{scalar, scalars}
use Rattle.std.proofs.lemmas.Bool.{and_parts, and_from, cases_lt, ltb-true}
use Rattle.std.proofs.lemmas.List.{get_or_past}
use Rattle.std.proofs.lemmas.List.Elements.{All-nil, All-cons, All-head, All-tail, All-map, All-filter}
use Rattle.std.proofs.lemmas.Str.{scalars-chars, IsUtf8-append, IsUtf8-nil}
use Rattle.tabled_input.specs.Lines.{cut_at, separated}
use Rattle.tabled_input.specs.Quoted.{cell_before, csv_rows, left_at, letter_before, nothing_left, row_before, step_at, without_returns}
use Rattle.tabled_input.specs.declared.reader.At.{At}
use Rattle.tabled_input.specs.declared.reader.At.TheVariants.{RowStart, CellStart, Bare, Quoted, AfterQuote}
use Rattle.tabled_input.specs.declared.reader.Step.{Step}
use Rattle.tabled_input.specs.declared.reader.Step.TheVariants as step
use Rattle.tabled_input.specs.Input.{rows_in, without_mark}
use Rattle.tabled_input.proofs.Marks.{mark_text}
use Rattle.tabled_input.specs.declared.rows.Cells.{Cells}
use Rattle.tabled_input.specs.declared.rows.Cells.TheVariants as cells
use Rattle.tabled_input.proofs.SpacedTexts.{lines_of_text, parts_are_texts, spaced_texts}

-- rows of texts
abbrev pub AreTexts : List (List (List ℕ)) → Type 0
AreTexts rows = All (All IsUtf8) rows

-- ---- lines, cut at separators

cut_texts : (separator : ℕ) (line : List ℕ) → IsUtf8 line → All IsUtf8 (cut_at separator line)
cut_texts separator line text = by (nat_lt separator 128) refl
  where
    by : (b : Bool) → nat_lt separator 128 ≡ b → All IsUtf8 (if b then slice_split (λ b. b == separator) line else line ∷ [])
    by true e = parts_are_texts separator (ltb-true separator 128 e) line text
    by false e = All-cons IsUtf8 line [] text (All-nil IsUtf8)

separated_texts : (separator : ℕ) (text : List ℕ) → IsUtf8 text → AreTexts (separated separator text)
unfolding separated
separated_texts separator text read =
    let is_full : List ℕ → Bool = λ line. not (length line == 0) in
    let full = All-filter is_full IsUtf8 (lines text) (lines_of_text text read) in
    All-map (All IsUtf8) (cut_at separator) (filter is_full (lines text)) (λ k d within. cut_texts separator (get_or (filter is_full (lines text)) k d) (full k d within))

-- ---- CSV

row_before_texts : (rows : List (List (List ℕ))) → AreTexts rows → AreTexts (row_before rows)
row_before_texts rows all = All-cons (All IsUtf8) ([] ∷ []) rows (All-cons IsUtf8 [] [] IsUtf8-nil (All-nil IsUtf8)) all

cell_before_texts : (rows : List (List (List ℕ))) → AreTexts rows → AreTexts (cell_before rows)
cell_before_texts [] all = all
cell_before_texts (row ∷ rows) all =
    All-cons (All IsUtf8) ([] ∷ row) rows (All-cons IsUtf8 [] row IsUtf8-nil (All-head (All IsUtf8) row rows all)) (All-tail (All IsUtf8) row rows all)

letter_before_texts : (c : ℕ) (rows : List (List (List ℕ))) → IsUtf8 (encode_utf8 c) → AreTexts rows → AreTexts (letter_before c rows)
letter_before_texts c [] letter all = all
letter_before_texts c ([] ∷ rows) letter all = all
letter_before_texts c ((cell ∷ row) ∷ rows) letter all =
    let first = All-head (All IsUtf8) (cell ∷ row) rows all in
    All-cons (All IsUtf8) ((encode_utf8 c ++ cell) ∷ row) rows
    (All-cons IsUtf8 (encode_utf8 c ++ cell) row (IsUtf8-append (encode_utf8 c) cell letter (All-head IsUtf8 cell row first)) (All-tail IsUtf8 cell row first))
    (All-tail (All IsUtf8) (cell ∷ row) rows all)

nothing_texts : (at : At) → AreTexts (nothing_left at)
nothing_texts RowStart = All-nil (All IsUtf8)
nothing_texts CellStart = row_before_texts [] (All-nil (All IsUtf8))
nothing_texts Bare = row_before_texts [] (All-nil (All IsUtf8))
nothing_texts Quoted = row_before_texts [] (All-nil (All IsUtf8))
nothing_texts AfterQuote = row_before_texts [] (All-nil (All IsUtf8))

left_texts : (separator : ℕ) (at : At) (cs : List ℕ) → scalars cs ≡ true → AreTexts (left_at separator at cs)
unfolding left_at
left_texts separator at [] are = nothing_texts at
left_texts separator at (c ∷ more) are =
    let here = and_parts (scalar c) (scalars more) are in
    by (step_at separator at c) (c ∷ [], (and_from (scalar c) true here.0 refl, append-nil (encode_utf8 c))) (λ next. left_texts separator next more here.1)
  where
    by : (what : Step) → IsUtf8 (encode_utf8 c) → ((next : At) → AreTexts (left_at separator next more))
        → AreTexts (elim what [
          | step.Row ↦ row_before (left_at separator RowStart more)
          | step.Cell ↦ cell_before (left_at separator CellStart more)
          | step.Letter next ↦ letter_before c (left_at separator next more)
          | step.Nothing next ↦ left_at separator next more
        ])
    by step.Row letter rest = row_before_texts (left_at separator RowStart more) (rest RowStart)
    by step.Cell letter rest = cell_before_texts (left_at separator CellStart more) (rest CellStart)
    by (step.Letter next) letter rest = letter_before_texts c (left_at separator next more) letter (rest next)
    by (step.Nothing next) letter rest = rest next

returns_dropped : (cs : List ℕ) → scalars cs ≡ true → scalars (without_returns cs) ≡ true
unfolding without_returns
returns_dropped [] are = refl
returns_dropped (c ∷ more) are =
    let here = and_parts (scalar c) (scalars more) are in
    by ((c == 13) && (slice_index more 0 == 10)) here.0 (returns_dropped more here.1)
  where
    by : (b : Bool) → scalar c ≡ true → scalars (without_returns more) ≡ true → scalars (if b then without_returns more else c ∷ without_returns more) ≡ true
    by true one rest = rest
    by false one rest = and_from (scalar c) (scalars (without_returns more)) one rest

quoted_texts : (separator : ℕ) (text : List ℕ) → IsUtf8 text → AreTexts (csv_rows separator text)
unfolding csv_rows
quoted_texts separator text read = left_texts separator RowStart (without_returns (chars text)) (returns_dropped (chars text) (scalars-chars text read))

-- ---- the rows of an input

pub rows_are_texts : (how : Cells) (input : List ℕ) → IsUtf8 input → AreTexts (rows_in how input)
rows_are_texts (cells.Separated separator) input read = separated_texts separator (without_mark input) (mark_text input read)
rows_are_texts (cells.Quoted separator) input read = quoted_texts separator (without_mark input) (mark_text input read)
rows_are_texts cells.Spaced input read = spaced_texts (without_mark input) (mark_text input read)

-- what holds of the empty text and of each of some texts holds of what they say at any place; and of what rows of texts say
pub at_place : (P : List ℕ → Type 0) (texts : List (List ℕ)) → P [] → All P texts → (place : ℕ) → P (get_or texts place [])
at_place P texts none all place =
    ⊎_elim (λ (inside : place < length texts). all place [] inside)
    (λ (past : length texts ≤ place). subst P (sym (get_or_past texts place [] past)) none)
    (cases_lt place (length texts))

pub at_each : (P : List ℕ → Type 0) (rows : List (List (List ℕ))) → P [] → All (All P) rows → (row col : ℕ) → P (get_or (get_or rows row []) col [])
at_each P rows none all row col =
    ⊎_elim
    (λ (inside : row < length rows). at_place P (get_or rows row []) none (all row [] inside) col)
    (λ (past : length rows ≤ row). subst (λ cells. P (get_or cells col [])) (sym (get_or_past rows row [] past)) (subst P (sym (get_or_past [] col [] (omega arith))) none))
    (cases_lt row (length rows))

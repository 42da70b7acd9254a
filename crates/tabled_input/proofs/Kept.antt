-- The cells of a line have its words.
use Rattle.std.proofs.Common.{◌≡◌, ◌==◌, ℕ, zero, suc, ◌+◌, ◌-◌, ◌<◌, ◌≤◌, Bool, true, false, not, cond, List, [], ◌∷◌, ◌++◌, map, length, get_or, take, drop, reverse, refl, sym, ap, ◌∙◌, arith, append-nil}
use Rattle.std.specs.List.{filter, flat_map, onto_first, prefix_len, slice_split, suffix_len}
use Rattle.std.specs.Str.Lines.{lines}
use Rattle.std.proofs.lemmas.Bool.{ltb-true}
use Rattle.std.proofs.lemmas.Grind.{common_steps}
use Rattle.std.proofs.lemmas.List.{get_or-drop, get_or-reverse, length-drop, take-append-drop}
use Rattle.std.proofs.lemmas.List.Elements.{filter-append}
use Rattle.std.proofs.lemmas.List.Splits.{length-slice_split}
use Rattle.std.proofs.lemmas.List.Sums.{prefix_len_passes, suffix_len-le-length}
use Rattle.tabled_input.specs.Spaced.{after_cell, cell_len, cells_of_line, first_cell, from_word, is_blank, row_words, spaced, to_word, columns_in, has_wide, wide_count, word_columns, word_lines, words}
use Rattle.tabled_input.proofs.WideCells.{cell_stops}

-- ---- the words of two lines in one

onto_append : (c : ℕ) (parts more : List (List ℕ)) → 0 < length parts → onto_first c (parts ++ more) ≡ onto_first c parts ++ more
onto_append c parts more some = grind (arith, common_steps)

split_append : (front : List ℕ) (c : ℕ) (line : List ℕ) → is_blank c ≡ true → slice_split is_blank (front ++ c ∷ line) ≡ slice_split is_blank front ++ slice_split is_blank line
split_append [] c line e = rw e
split_append (d ∷ front) c line e = grind (arith, common_steps, split_append front c line e, length-slice_split is_blank front, onto_append)

words_here : (c : ℕ) (line : List ℕ) → is_blank c ≡ true → words (c ∷ line) ≡ words line
words_here c line e = rw e

words_append : (front line : List ℕ) → (0 < length line → is_blank (get_or line 0 0) ≡ true) → words (front ++ line) ≡ words front ++ words line
words_append front [] blank = ap words (append-nil front) ∙ sym (append-nil (words front))
words_append front (c ∷ line) blank =
    ap (filter (λ word. not (length word == 0))) (split_append front c line (blank (omega arith)))
    ∙ filter-append (λ word. not (length word == 0)) (slice_split is_blank front) (slice_split is_blank line)
    ∙ ap (λ more. words front ++ more) (sym (words_here c line (blank (omega arith))))

-- ---- blanks have no words

words_after : (line : List ℕ) → words (from_word line) ≡ words line
words_after [] = refl
words_after (c ∷ line) = by (is_blank c) refl (words_after line)
  where
    by : (b : Bool) → is_blank c ≡ b → words (from_word line) ≡ words line → words (drop (cond b (1 + prefix_len is_blank line) 0) (c ∷ line)) ≡ words (c ∷ line)
    by true e h = ap (λ n. words (drop n (c ∷ line))) (let next : 1 + prefix_len is_blank line ≡ suc (prefix_len is_blank line) = omega arith in next) ∙ h ∙ sym (words_here c line e)
    by false e h = refl

no_words : (line : List ℕ) → ((k : ℕ) → k < length line → is_blank (get_or line k 0) ≡ true) → words line ≡ []
no_words [] blanks = refl
no_words (c ∷ line) blanks = words_here c line (blanks 0 (omega arith)) ∙ no_words line (λ k h. blanks (suc k) (omega (arith, h)))

words_split : (line : List ℕ) (n : ℕ) → (n < length line → is_blank (get_or line n 0) ≡ true) → words line ≡ words (take n line) ++ words (drop n line)
words_split line n blank =
    let first : get_or (drop n line) 0 0 ≡ get_or line n 0 = grind (arith, common_steps) in
    ap words (sym (take-append-drop n line)) ∙ words_append (take n line) (drop n line) (λ h. ap is_blank first ∙ blank (omega (arith, h, length-drop n line)))

pub blank_after : (line : List ℕ) (k : ℕ) → length line - suffix_len is_blank line ≤ k → k < length line → is_blank (get_or line k 0) ≡ true
blank_after line k low high =
    let place : length line - 1 - (length line - 1 - k) ≡ k = omega arith in
    let passes = prefix_len_passes is_blank (reverse line) (length line - 1 - k) 0 (omega (arith, low, high, suffix_len-le-length is_blank line)) in
    ap (λ n. is_blank (get_or line n 0)) (sym place) ∙ ap is_blank (sym (get_or-reverse line (length line - 1 - k) 0 (omega (arith, high)))) ∙ passes

words_before : (line : List ℕ) → words (to_word line) ≡ words line
words_before line =
    let n = length line - suffix_len is_blank line in
    let none = no_words (drop n line) (λ k h. ap is_blank (get_or-drop n line k 0) ∙ blank_after line (n + k) (omega arith) (omega (arith, h, length-drop n line))) in
    sym (append-nil _) ∙ ap (λ more. words (take n line) ++ more) (sym none) ∙ sym (words_split line n (blank_after line n (omega arith)))

-- ---- the words of the cells of a line

kept : (is_wide : Bool) (columns : ℕ) (line : List ℕ) → 0 < columns → flat_map words (cells_of_line is_wide columns line) ≡ words line
unfolding cells_of_line
kept is_wide zero line some = absurd (omega (arith, some))
kept is_wide (suc zero) line some = append-nil (words (to_word (from_word line))) ∙ words_before (from_word line) ∙ words_after line
kept is_wide (suc (suc more)) line some =
    ap (λ others. words (first_cell is_wide line) ++ others) (kept is_wide (suc more) (after_cell is_wide line) (omega arith))
    ∙ sym (words_split (from_word line) (cell_len is_wide (from_word line)) (cell_stops is_wide (from_word line)).1) ∙ words_after line

kept_each : (is_wide : Bool) (columns : ℕ) (lines : List (List ℕ)) → 0 < columns → map (flat_map words) (map (cells_of_line is_wide columns) lines) ≡ map words lines
kept_each is_wide columns [] some = refl
kept_each is_wide columns (line ∷ lines) some = λ i. kept is_wide columns line some i ∷ kept_each is_wide columns lines some i

-- ---- the words of a text

some_columns : (text : List ℕ) → 0 < columns_in text
some_columns text = by (has_wide text) refl
  where
    by : (b : Bool) → has_wide text ≡ b → 0 < cond b (wide_count (word_lines text)) (word_columns text)
    by true e = ltb-true 0 (wide_count (word_lines text)) e
    by false e = omega arith

pub spaced_kept : (text : List ℕ) → row_words (spaced text) ≡ map words (word_lines text)
unfolding spaced
spaced_kept text = kept_each (has_wide text) (columns_in text) (word_lines text) (some_columns text)

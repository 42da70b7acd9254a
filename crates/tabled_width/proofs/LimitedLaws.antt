-- Each line of a text that was limited fits; and texts of printable ASCII can be limited.
use Rattle.std.proofs.Common.{◌≡◌, ◌==◌, ℕ, ◌+◌, ◌≤◌, Bool, true, false, cond, List, [], ◌∷◌, get_or, refl, arith}
use Rattle.std.specs.List.{All, list_all, slice_split, onto_first}
use Rattle.std.specs.Str.{IsUtf8}
use Rattle.std.proofs.lemmas.Bool.{and_from, and_parts}
use Rattle.std.proofs.lemmas.Bool.Decides.{nat_tests}
use Rattle.std.proofs.lemmas.List.Elements.{All-nil, All-cons, All-head, All-tail}
use Rattle.std.proofs.lemmas.List.Splits.{slice_split_none}
use Rattle.std.proofs.lemmas.List.Sums.{AllPass-from_list_all}
use Rattle.std.proofs.lemmas.Str.{IsUtf8-from_ascii}
use Rattle.tabled_width.specs.declared.limit.Overflow.{Overflow}
use Rattle.tabled_width.specs.declared.limit.Overflow.TheVariants.{Wrap, WrapWords, Truncate}
use Rattle.tabled_width.specs.Texts.{LinesFit, is_printable, pieces}
use Rattle.tabled_width.specs.Limited.{CanFit, IsPrintableText, ends_printable, limited}
use Rattle.tabled_width.specs.Rows.{Chunk, WordsFit, words, words_from}
use Rattle.tabled_width.proofs.Printing.{printable_ascii}
use Rattle.tabled_width.proofs.PrintableRows.{each_fits}
use Rattle.tabled_width.proofs.TextLaws.{wrapped_fits, wrapped_words_fits, truncated_fits}

pub limited_fits : (how : Overflow) (width : ℕ) (text : List ℕ) → IsUtf8 text → CanFit how width text → LinesFit width (limited how width text)
limited_fits Wrap width text u can = wrapped_fits width text u can
limited_fits WrapWords width text u can = wrapped_words_fits width text u can
limited_fits (Truncate suffix) width text u can = truncated_fits width suffix.now text u can.0 can.1

-- ---- printable ASCII

abbrev Printable : List ℕ → Type 0
Printable bytes = list_all is_printable bytes ≡ true

onto_printable : (b : ℕ) (parts : List (List ℕ)) → is_printable b ≡ true → All Printable parts → All Printable (onto_first b parts)
onto_printable b [] here all = All-cons Printable (b ∷ []) [] (and_from (is_printable b) true here refl) (All-nil Printable)
onto_printable b (part ∷ parts) here all =
    All-cons Printable (b ∷ part) parts (and_from (is_printable b) (list_all is_printable part) here (All-head Printable part parts all)) (All-tail Printable part parts all)

split_printable : (test : ℕ → Bool) (bytes : List ℕ) → Printable bytes → All Printable (slice_split test bytes)
split_printable test [] h = All-cons Printable [] [] refl (All-nil Printable)
split_printable test (b ∷ bytes) h =
    let here = and_parts (is_printable b) (list_all is_printable bytes) h in
    by_test (test b) here.0 (split_printable test bytes here.1)
  where
    by_test : (t : Bool) → is_printable b ≡ true → All Printable (slice_split test bytes) → All Printable (cond t ([] ∷ slice_split test bytes) (onto_first b (slice_split test bytes)))
    by_test true here all = All-cons Printable [] (slice_split test bytes) refl all
    by_test false here all = onto_printable b (slice_split test bytes) here all

words_printable : (gap : ℕ) (parts : List (List ℕ)) → All Printable parts → All (λ (word : Chunk). Printable word.text) (words_from gap parts)
words_printable gap [] all = All-nil (λ (word : Chunk). Printable word.text)
words_printable gap ([] ∷ parts) all = words_printable (gap + 1) parts (All-tail Printable [] parts all)
words_printable gap ((b ∷ bytes) ∷ parts) all =
    All-cons (λ (word : Chunk). Printable word.text) (record { gap = gap; text = b ∷ bytes }) (words_from 1 parts) (All-head Printable (b ∷ bytes) parts all)
    (words_printable 1 parts (All-tail Printable (b ∷ bytes) parts all))

words_fit : (width : ℕ) (line : List ℕ) → 1 ≤ width → Printable line → WordsFit width line
words_fit width line some printable k d within =
    each_fits width (get_or (words line) k d).text some (words_printable 0 (slice_split (λ byte. byte == 32) line) (split_printable (λ byte. byte == 32) line printable) k d within)

no_feed : (b : ℕ) → is_printable b ≡ true → (b == 10) ≡ false
no_feed b h = grind (arith, nat_tests)

one_line : (text : List ℕ) → Printable text → pieces text ≡ text ∷ []
one_line text printable = slice_split_none (λ byte. byte == 10) text (λ k d within. no_feed (get_or text k d) (AllPass-from_list_all is_printable text printable k d within))

pub printable_can_fit : (how : Overflow) (width : ℕ) (text : List ℕ) → 1 ≤ width → ends_printable how ≡ true → IsPrintableText text → CanFit how width text
printable_can_fit Wrap width text some ends printable = λ k d within. each_fits width (get_or (pieces text) k d) some (printable k d within)
printable_can_fit WrapWords width text some ends printable = λ k d within. words_fit width (get_or (pieces text) k d) some (printable k d within)
printable_can_fit (Truncate suffix) width text some ends printable = (IsUtf8-from_ascii suffix.now (printable_ascii suffix.now ends), one_line suffix.now ends)

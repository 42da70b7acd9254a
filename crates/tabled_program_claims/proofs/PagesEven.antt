-- Every page that the program writes is a rectangle.
use Rattle.std.proofs.Common.{◌≡◌, ◌==◌, ℕ, ◌<◌, Bool, true, false, not, cond, if◌then◌else◌, eqb, nat_lt, Option, Some, None, List, [], ◌∷◌, ◌++◌, length, get_or, refl, ap, ◌∙◌, arith}
use Rattle.std.specs.List.{onto_first, list_all}
use Rattle.std.specs.Str.{IsUtf8}
use Rattle.std.proofs.lemmas.Bool.{eqb-true}
use Rattle.std.proofs.lemmas.Bool.Decides.{nat_tests}
use Rattle.std.proofs.lemmas.List.Splits.{length-slice_split}
use Rattle.std.proofs.lemmas.List.Sums.{AllPass-from_list_all}
use Rattle.std.proofs.lemmas.Str.{IsUtf8-from_ascii}
use Rattle.std.proofs.lemmas.Str.Ascii.{IsAscii-from_all}
use Rattle.tabled_width.specs.Texts.{Table, width_of_text}
use Rattle.tabled_width.specs.Texts as printer
use Rattle.tabled_painting.specs.Widths.{text_width}
use Rattle.tabled_style.specs.declared.ready_style.ReadyStyle.{ReadyStyle}
use Rattle.tabled_measure.specs.Cells.{margin_set}
use Rattle.tabled_measure.specs.Sizes.{cell, column_count}
use Rattle.tabled_text.specs.TextTable.{look_of, text_of}
use Rattle.tabled_text.proofs.Even.{text_even}
use Rattle.tabled_pages.specs.declared.bytes.TheConstants.{LINE_FEED}
use Rattle.tabled_pages.specs.declared.read.TheConstants.{INPUT_LIMIT}
use Rattle.tabled_pages.specs.declared.error.ShowError.{ShowError}
use Rattle.tabled_pages.specs.declared.error.ShowError.TheVariants.{TooLong, ByteOutOfRange, UnequalRows}
use Rattle.tabled_pages.specs.Input.{is_allowed, have_equal_counts, fault_of, lines_of, rows_of, without_empty_last}
use Rattle.tabled_pages.specs.Page.{framed_page, page}
use Rattle.tabled_pages.specs.Style.{styled}
use Rattle.tabled_pages.proofs.Lines.{lines_of-nil}
use Rattle.tabled_pages.proofs.OneLine.{is_printable, are_printable, are_printable-rows, list_all-get_or}
use Rattle.tabled_program_claims.proofs.NoSpans.{no_spans}
use Rattle.tabled_claims.proofs.ReadyPlain.{ready_narrow}

-- ---- the lines of a text that a line feed ends

onto_some : (b : ℕ) (ps : List (List ℕ)) → 0 < length ps → onto_first b (ps ++ [] ∷ []) ≡ onto_first b ps ++ [] ∷ []
onto_some b [] some = absurd (omega (arith, some))
onto_some b (p ∷ ps) some = refl

ended_by : (b : ℕ) (bs : List ℕ) (feed : Bool) → printer.pieces (bs ++ 10 ∷ []) ≡ printer.pieces bs ++ [] ∷ []
    → cond feed ([] ∷ printer.pieces (bs ++ 10 ∷ [])) (onto_first b (printer.pieces (bs ++ 10 ∷ []))) ≡ cond feed ([] ∷ printer.pieces bs) (onto_first b (printer.pieces bs)) ++ [] ∷ []
ended_by b bs true rest = ap (λ l. [] ∷ l) rest
ended_by b bs false rest =
    ap (onto_first b) rest ∙ onto_some b (printer.pieces bs) (let long = length-slice_split (λ (x : ℕ). eqb x 10) bs in omega (arith, long))

ended : (text : List ℕ) → printer.pieces (text ++ 10 ∷ []) ≡ printer.pieces text ++ [] ∷ []
ended [] = refl
ended (b ∷ bs) = ended_by b bs (eqb b 10) (ended bs)

without_ended : (ps : List (List ℕ)) → without_empty_last (ps ++ [] ∷ []) ≡ ps
without_ended [] = refl
without_ended ([] ∷ []) = refl
without_ended ((b ∷ bs) ∷ []) = refl
without_ended ([] ∷ q ∷ ps) = ap (λ l. [] ∷ l) (without_ended (q ∷ ps))
without_ended ((b ∷ bs) ∷ q ∷ ps) = ap (λ l. (b ∷ bs) ∷ l) (without_ended (q ∷ ps))

lines_ended : (text : List ℕ) → lines_of (text ++ LINE_FEED ∷ []) ≡ printer.pieces text
unfolding lines_of
lines_ended text = ap without_empty_last (ended text) ∙ without_ended (printer.pieces text)

-- ---- an input without a fault

sound_parts : (long allowed equal : Bool) → ◌≡◌ {A = Option ShowError} (if long then Some TooLong else if not allowed then Some ByteOutOfRange else if not equal then Some UnequalRows else None) None
    → (allowed ≡ true) × (equal ≡ true)
sound_parts true allowed equal h = absurd (cc)
sound_parts false false equal h = absurd (cc)
sound_parts false true false h = absurd (cc)
sound_parts false true true h = (refl, refl)

sound : (input : List ℕ) → fault_of input ≡ None → (list_all is_allowed input ≡ true) × (have_equal_counts (rows_of input) ≡ true)
unfolding fault_of
sound input none = sound_parts (nat_lt INPUT_LIMIT (length input)) (list_all is_allowed input) (have_equal_counts (rows_of input)) none

below_128 : (b : ℕ) → is_printable b ≡ true → b < 128
below_128 b h = grind (arith, nat_tests)

utf8_printable : (text : List ℕ) → list_all is_printable text ≡ true → IsUtf8 text
utf8_printable text h =
    let pass = AllPass-from_list_all is_printable text h in
    IsUtf8-from_ascii text (IsAscii-from_all text (λ k d within. below_128 (get_or text k d) (pass k d within)))

cells_utf8 : (rows : Table) → are_printable rows ≡ true → (r c : ℕ) → IsUtf8 (cell (get_or rows r []) c)
cells_utf8 rows h r c =
    utf8_printable (cell (get_or rows r []) c)
    (list_all-get_or (list_all is_printable) (get_or rows r []) c [] (list_all-get_or (list_all (list_all is_printable)) rows r [] h refl) refl)

counts_equal : (rows : Table) → have_equal_counts rows ≡ true → (r : ℕ) → r < length rows → length (get_or rows r []) ≡ column_count rows
counts_equal rows h r within = eqb-true _ _ (AllPass-from_list_all (λ row. length row == column_count rows) rows h r [] within)

framed_even : (style : ReadyStyle) (rows : Table) → have_equal_counts rows ≡ true → are_printable rows ≡ true
    → list_all (λ line. width_of_text line == text_width (look_of (styled style) rows) (margin_set (styled style))) (lines_of (framed_page style rows)) ≡ true
framed_even style [] equal printable = ap (list_all (λ line. width_of_text line == text_width (look_of (styled style) []) (margin_set (styled style)))) lines_of-nil
framed_even style (row ∷ rows) equal printable =
    ap (list_all (λ line. width_of_text line == text_width (look_of (styled style) (row ∷ rows)) (margin_set (styled style)))) (lines_ended (text_of (styled style) (row ∷ rows)))
    ∙ text_even (styled style) (row ∷ rows) (counts_equal (row ∷ rows) equal) (cells_utf8 (row ∷ rows) printable) (ready_narrow style) (no_spans style)

pub page_even : (style : ReadyStyle) (input : List ℕ) → fault_of input ≡ None
    → list_all (λ line. width_of_text line == text_width (look_of (styled style) (rows_of input)) (margin_set (styled style))) (lines_of (page style input)) ≡ true
unfolding page
page_even style input none = let parts = sound input none in framed_even style (rows_of input) parts.1 (are_printable-rows input parts.0)

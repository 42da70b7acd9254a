-- The page of an input: its table, or nothing where the input is empty.
use Rattle.std.proofs.Common.{◌≡◌, ℕ, ◌<◌, ◌≤◌, true, List, [], ◌∷◌, ◌++◌, length, map, refl, ap, arith}
use Rattle.tabled_width.specs.Texts.{Table}
use Rattle.tabled_style.specs.declared.ready_style.ReadyStyle.{ReadyStyle}
use Rattle.tabled_text.specs.TextTable.{text_of}
use Rattle.tabled_pages.specs.declared.bytes.TheConstants.{LINE_FEED}
use Rattle.tabled_pages.specs.Input.{cells_of, have_equal_counts, rows_of}
use Rattle.tabled_pages.specs.Page.{framed_page, page}
use Rattle.tabled_pages.specs.Style.{styled}
use Rattle.tabled_pages.proofs.Lines.{rows_of-first, lines_of-empty}

framed_page-some : (style : ReadyStyle) (rows : Table) → 0 < length rows → text_of (styled style) rows ++ LINE_FEED ∷ [] ≡ framed_page style rows
framed_page-some style [] some = absurd (omega arith)
framed_page-some style (row ∷ rows) some = refl

framed_page-none : (style : ReadyStyle) (rows : Table) → length rows ≤ 0 → [] ≡ framed_page style rows
framed_page-none style [] none = refl
framed_page-none style (row ∷ rows) none = absurd (omega arith)

-- the page of an input that is not empty
pub page-some : (style : ReadyStyle) (input : List ℕ) → 0 < length input → text_of (styled style) (rows_of input) ++ LINE_FEED ∷ [] ≡ page style input
unfolding page
page-some style input some = framed_page-some style (rows_of input) (omega (arith, ap length (rows_of-first input some)))

-- the page of the empty input
pub page-none : (style : ReadyStyle) (input : List ℕ) → length input ≤ 0 → [] ≡ page style input
unfolding page
page-none style input none = framed_page-none style (rows_of input) (omega (arith, ap length (ap (map cells_of) (lines_of-empty input none))))

-- the empty input has equal counts
pub equal-none : (input : List ℕ) → length input ≤ 0 → have_equal_counts (rows_of input) ≡ true
equal-none input none = ap (λ lines. have_equal_counts (map cells_of lines)) (lines_of-empty input none)

-- Nothing in the cells of a table that was cleaned steers a terminal.
use Rattle.std.proofs.Common.{◌≡◌, true, [], List, ℕ, map, chars, get_or, Vec, refl, sym, ◌∙◌}
use Rattle.std.specs.List.{list_all}
use Rattle.std.specs.Str.{IsUtf8}
use Rattle.std.proofs.lemmas.List.Folds.{list_all-map}
use Rattle.std.proofs.lemmas.List.Sums.{AllPass-from_list_all}
use Rattle.std.proofs.lemmas.Str.{IsUtf8-nil, scalars-chars}
use Rattle.tabled_cells.specs.TextsBy.{texts_by}
use Rattle.tabled_clean.specs.Steering.{IsCleanText, cleaned, is_clean, without_steering}
use Rattle.tabled_clean.proofs.SteeringLemmas.{clean_stays, cleaned_is_clean, empty_is_clean, scalars_kept}
use Rattle.tabled_width.specs.Texts.{Table}
use Rattle.tabled_measure.specs.Cells.{AreUtf8}
use Rattle.tabled_measure.specs.Changed.{CellsAreClean, cells_changed, each_text}
use Rattle.tabled_measure.specs.Sizes.{cell}
use Rattle.tabled_measure.proofs.ChangedLemmas.{cells_stay, in_cells}

-- whether nothing steers in rows, text by text
pub all_clean : {T Z : Type 0} (bytes : T → List ℕ) (rows : List (Vec T Z)) → list_all (list_all is_clean) (texts_by bytes rows) ≡ list_all (λ row. list_all (λ text. is_clean (bytes text)) row.items) rows
all_clean bytes rows = list_all-map (list_all is_clean) (λ row. map bytes row.items) rows ∙ (λ i. list_all (λ row. list_all-map is_clean bytes row.items i) rows)

-- cells in which nothing steers stay as they are
pub clean_cells : (table : Table) → AreUtf8 table → list_all (list_all is_clean) table ≡ true → table ≡ cells_changed (each_text cleaned) table
clean_cells table utf8 clean =
    sym (cells_stay (each_text cleaned) table (λ row col inside within.
    let cells = AllPass-from_list_all (list_all is_clean) table clean row [] inside in
    clean_stays (cell (get_or table row []) col) (utf8 row col) (AllPass-from_list_all is_clean (get_or table row []) cells col [] within)))

cleaned_text : (text : List ℕ) → IsUtf8 text → IsCleanText (cleaned text)
unfolding cleaned
cleaned_text text utf8 = ((without_steering (chars text), (scalars_kept (chars text) (scalars-chars text utf8), refl)), cleaned_is_clean text utf8)

pub cells_cleaned : (table : Table) → AreUtf8 table → CellsAreClean (cells_changed (each_text cleaned) table)
cells_cleaned table utf8 row col = in_cells IsCleanText (IsUtf8-nil, empty_is_clean) (each_text cleaned) table row col (cleaned_text (cell (get_or table row []) col) (utf8 row col))

-- A table whose rows have as many cells each is whole in its columns.
use Rattle.std.proofs.Common.{◌≡◌, ℕ, List, [], ◌∷◌, None, map, length, refl, sym}
use Rattle.std.proofs.lemmas.List.Elements.{All-head, All-tail}
use Rattle.std.proofs.lemmas.List.FromFn.{fill_by_all}
use Rattle.tabled_markdown.specs.Table.{cell, fitted}
use Rattle.tabled_width.specs.Texts.{Table}
use Rattle.tabled_measure.specs.Sizes.{column_count, unequal_row}
use Rattle.tabled_measure.proofs.EqualRows.{HasCells, HaveCells, have-cells}

whole_row : (count : ℕ) (row : List (List ℕ)) → length row ≡ count → fitted count row ≡ row
whole_row count row long = sym (fill_by_all (cell row) row count [] long (λ k here. refl))

whole_rows : (count : ℕ) (table : Table) → HaveCells count table → map (fitted count) table ≡ table
whole_rows count [] each = refl
whole_rows count (row ∷ rows) each = λ i. whole_row count row (All-head (HasCells count) row rows each) i ∷ whole_rows count rows (All-tail (HasCells count) row rows each) i

pub whole_table : (table : Table) → unequal_row table ≡ None → map (fitted (column_count table)) table ≡ table
whole_table table even = whole_rows (column_count table) table (have-cells table even)

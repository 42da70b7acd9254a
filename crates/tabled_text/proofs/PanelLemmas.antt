-- Whether a row over all columns goes into a table.
use Rattle.std.proofs.Common.{◌≡◌, ◌⊎◌, inl, inr, ℕ, ◌-◌, ◌<◌, max, true, List, [], length, arith}
use Rattle.std.proofs.lemmas.Bool.Decides.{nat_tests}
use Rattle.std.proofs.lemmas.List.{length-replicate}
use Rattle.tabled_width.specs.Texts.{Table}
use Rattle.tabled_measure.specs.Edited.{goes_in}
use Rattle.tabled_text.specs.Panels.{panel, panel_columns}
use Rattle.tabled_measure.specs.Sizes.{column_count}

-- as many cells as columns, and one at least
panel-length : (text : List ℕ) (table : Table) → length (panel text table) ≡ max (column_count table) 1
panel-length text table = let rest = length-replicate {A = List ℕ} (panel_columns table - 1) [] in omega (arith, rest)

-- it goes in where there are no rows, or these have cells
pub panel_in : (text : List ℕ) (table : Table) → (length table ≡ 0) ⊎ (0 < column_count table) → goes_in (panel text table) table ≡ true
panel_in text table either = let long = panel-length text table in elim either [
  | inl none ↦ grind (arith, nat_tests)
  | inr some ↦ grind (arith, nat_tests)
]

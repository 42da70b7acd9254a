-- The counts of rows: by the first row that differs, and by a test of all.
use Rattle.std.proofs.Common.{◌≡◌, ℕ, ◌+◌, Bool, true, false, [], ◌∷◌, length, refl, sym, ap, ◌∙◌, ◌==◌, ◌&&◌, if◌then◌else◌, Option, Some, None, Result, Ok, Err}
use Rattle.std.specs.Prelude.{is_none, MatchOption, IsOkUnless}
use Rattle.std.specs.List.{list_all}
use Rattle.tabled_width.specs.Texts.{Table}
use Rattle.tabled_measure.specs.Sizes.{column_count, first_unequal, unequal_row}
use Rattle.tabled_text.specs.Refusal.{unequal}
use Rattle.tabled_text.specs.declared.table_error.TableError.{TableError}
use Rattle.tabled_text.specs.declared.table_error.TableError.TheVariants.{OutOfMemory, UnequalRows}
use Rattle.tabled_pages.specs.Input.{have_equal_counts}

-- every row has the given number of cells
abbrev have_count : ℕ → Table → Bool
have_count columns rows = list_all (λ row. length row == columns) rows

-- no row differs where all pass
none_unequal : (columns start : ℕ) (rows : Table) → is_none (first_unequal columns start rows) ≡ have_count columns rows
none_unequal columns start [] = refl
none_unequal columns start (row ∷ rows) =
    elim (length row == columns) as (λ same. is_none (if same then first_unequal columns (start + 1) rows else Some start) ≡ (same && have_count columns rows)) [
      | true ↦ none_unequal columns (start + 1) rows
      | false ↦ refl
    ]

module _ {T : Type 0} (rows : Table) where
  -- rows that were made a table have equal counts
  pub taken_equal : (r : Result T TableError) (o : Option ℕ) → unequal_row rows ≡ o → MatchOption o (IsOkUnless r OutOfMemory) (λ row. r ≡ Err (unequal rows row))
      → (table : T) → r ≡ Ok table → have_equal_counts rows ≡ true
  taken_equal r None none h table is = sym (none_unequal (column_count rows) 0 rows) ∙ ap is_none none
  taken_equal r (Some row) some h table is = absurd (cc)

  -- rows that were refused for their counts differ in them
  pub refused_unequal : (r : Result T TableError) (o : Option ℕ) → unequal_row rows ≡ o → MatchOption o (IsOkUnless r OutOfMemory) (λ row. r ≡ Err (unequal rows row))
      → (row cells columns : ℕ) → r ≡ Err (UnequalRows row cells columns) → have_equal_counts rows ≡ false
  refused_unequal (Ok table) None none h row cells columns is = absurd (cc)
  refused_unequal (Err e) None none h row cells columns is = absurd (cc)
  refused_unequal r (Some first) some h row cells columns is = sym (none_unequal (column_count rows) 0 rows) ∙ ap is_none some

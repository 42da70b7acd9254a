-- The numbers of lines stay right.
use Rattle.std.proofs.Common.{◌≡◌, ◌↔◌, IsFalse, nat_lt, ℕ, Bool, true, false, ◌&&◌, Option, Some, None, is_some, IsSome, unwrap_or, refl, sym, ap, subst, ◌∙◌, Result, Ok, Err, OnOk, OnErr, ◌+◌, ◌-◌, ◌<◌, ◌^◌, min, arith, nat_cmp}
use Rattle.std.specs.Cmp.{nat_cmp_total}
use Rattle.std.proofs.lemmas.Bool.Decides.{nat_tests}
use Rattle.std.specs.FinMap as map
use Rattle.tabled_places.specs.declared.place.LineOf.{LineOf}
use Rattle.tabled_grid.specs.declared.line_numbers.LineNumbers.{LineNumbers}
use Rattle.tabled_places.specs.Keys.{line_cmp, spot_cmp, spots_total, exact_spots}
use Rattle.tabled_places.specs.declared.place.Rank.{Rank}
use Rattle.tabled_places.specs.declared.place.Rank.TheVariants.{First as first, Inner as inner, Last as last}
use Rattle.tabled_places.specs.declared.site.Spot.{Spot}
use Rattle.tabled_places.specs.Drawn.{lies_on}
use Rattle.tabled_grid.specs.Count.{count, passes, one_if}
use Rattle.tabled_grid.specs.Counted.{number_at, CellsCounted, number_of, numbers_of, exchanged, LinesCounted}
use Rattle.tabled_grid.proofs.Counting.{count-insert, count-remove, count-empty, count_positive, count_from, count-le}

here : {T : Type 0} (o : Option T) (b : Bool) → is_some o ≡ true → b ≡ true → (is_some o && b) ≡ true
here (Some x) b e f = f
here None b e f = absurd cc

-- something is there and passes
was_there : {T : Type 0} (b : Bool) (o : Option T) → passes (λ _. b) o ≡ (is_some o && b)
was_there b None = refl
was_there b (Some x) = refl

and_there : {T : Type 0} (b : Bool) (o : Option T) → passes (λ _. b) o ≡ true → (b ≡ true) × IsSome o
and_there b None h = absurd cc
and_there b (Some x) h = (h, refl)

-- the number of the values on a line
abbrev on_line : {T : Type 0} → LineOf → map.FinMap spot_cmp T → ℕ
on_line line cells = count (λ spot _. lies_on line spot) cells

module _ {T : Type 0} (numbers : map.FinMap line_cmp ℕ) (cells : map.FinMap spot_cmp T) (h : CellsCounted numbers cells) where
  -- a number is small enough to be raised
  pub small_number : (line : LineOf) → number_at numbers line < 2 ^ 64
  small_number line = omega (arith, h.on_lines line, count-le spots_total exact_spots (λ spot _. lies_on line spot) cells, h.few_cells)

  pub cell_put : (numbers' : map.FinMap line_cmp ℕ) (cells' : map.FinMap spot_cmp T) (at : Spot) (v : T) → cells' ≡ map.insert cells at v → ((line : LineOf) → number_at numbers' line + one_if (is_some (map.get cells at) && lies_on line at) ≡ number_at numbers line + one_if (lies_on line at)) → map.len cells' < 2 ^ 64 → CellsCounted numbers' cells'
  cell_put numbers' cells' at v e counted few = record {
    on_lines = λ line.
        let more : on_line line cells' + one_if (is_some (map.get cells at) && lies_on line at) ≡ on_line line cells + one_if (lies_on line at) =
        (λ i. on_line line (e i) + one_if (sym (was_there (lies_on line at) (map.get cells at)) i)) ∙ count-insert spots_total exact_spots (λ spot _. lies_on line spot) cells at v in
        omega (arith, counted line, h.on_lines line, more);
    few_cells = few;
  }

  pub cell_taken : (numbers' : map.FinMap line_cmp ℕ) (cells' : map.FinMap spot_cmp T) (at : Spot) → cells' ≡ map.remove cells at → ((line : LineOf) → number_at numbers' line + one_if (is_some (map.get cells at) && lies_on line at) ≡ number_at numbers line) → map.len cells' < 2 ^ 64 → CellsCounted numbers' cells'
  cell_taken numbers' cells' at e counted few = record {
    on_lines = λ line.
        let less : on_line line cells' + one_if (is_some (map.get cells at) && lies_on line at) ≡ on_line line cells =
        (λ i. on_line line (e i) + one_if (sym (was_there (lies_on line at) (map.get cells at)) i)) ∙ count-remove spots_total exact_spots (λ spot _. lies_on line spot) cells at in
        omega (arith, counted line, h.on_lines line, less);
    few_cells = few;
  }

  -- the number of a line on which something is kept is not zero
  pub cell_counts : (at : Spot) → IsSome (map.get cells at) → (line : LineOf) → lies_on line at ≡ true → 0 < number_at numbers line
  cell_counts at some line lies =
      let positive : 0 < on_line line cells = count_positive spots_total exact_spots (λ spot _. lies_on line spot) cells at (was_there (lies_on line at) (map.get cells at) ∙ here (map.get cells at) (lies_on line at) some lies) in
      omega (arith, h.on_lines line, positive)

  -- a number that is not zero is that of a line with something on it
  pub some_on_line : (line : LineOf) → 0 < number_at numbers line → (at : Spot) × (lies_on line at ≡ true) × IsSome (map.get cells at)
  some_on_line line positive =
      let some : 0 < on_line line cells = omega (arith, h.on_lines line, positive) in
      let found = count_from spots_total exact_spots (λ spot _. lies_on line spot) cells some in
      let facts = and_there (lies_on line found.0) (map.get cells found.0) found.1 in
      (found.0, facts.0, facts.1)

  -- and a number that is zero that of a line with nothing on it
  pub none_on_line : (line : LineOf) (n : ℕ) → n ≡ number_at numbers line → IsFalse (nat_lt 0 n) ↔ ((at : Spot) → lies_on line at ≡ true → map.get cells at ≡ None)
  none_on_line line n is = (
    λ zero at lies. by_case at lies (is_some (map.get cells at)) refl zero,
    λ none. not_some (nat_lt 0 n) refl none,
  )
    where
      nothing : {A : Type 0} (o : Option A) → is_some o ≡ false → o ≡ None
      nothing None h = refl
      nothing (Some x) h = absurd cc

      by_case : (at : Spot) → lies_on line at ≡ true → (b : Bool) → is_some (map.get cells at) ≡ b → nat_lt 0 n ≡ false → map.get cells at ≡ None
      by_case at lies false kept zero = nothing (map.get cells at) kept
      by_case at lies true kept zero = absurd (let some = cell_counts at kept line lies in grind (arith, nat_tests, some, is, zero))

      not_some : (b : Bool) → nat_lt 0 n ≡ b → ((at : Spot) → lies_on line at ≡ true → map.get cells at ≡ None) → b ≡ false
      not_some false test none = refl
      not_some true test none = absurd (
          let positive : 0 < number_at numbers line = grind (arith, nat_tests, is, test) in
          let found = some_on_line line positive in
          let no : true ≡ false = sym found.2 ∙ ap is_some (none found.0 found.1) in cc
          )

  -- nothing changed, whatever the keys of the numbers
  pub cells_kept : (numbers' : map.FinMap line_cmp ℕ) (cells' : map.FinMap spot_cmp T) → ((line : LineOf) → number_at numbers' line ≡ number_at numbers line) → cells' ≡ cells → CellsCounted numbers' cells'
  cells_kept numbers' cells' same e = record {
    on_lines = λ line. same line ∙ h.on_lines line ∙ (λ i. on_line line (sym e i));
    few_cells = subst (λ m. map.len m < 2 ^ 64) (sym e) h.few_cells;
  }

  -- whether memory was there or not
  pub cell_either : {A E : Type 0} (result : Result A E) (numbers' : map.FinMap line_cmp ℕ) (cells' : map.FinMap spot_cmp T) (at : Spot) (v : T) → OnOk result (cells' ≡ map.insert cells at v) → OnOk result ((line : LineOf) → number_at numbers' line + one_if (is_some (map.get cells at) && lies_on line at) ≡ number_at numbers line + one_if (lies_on line at)) → OnErr result (cells' ≡ cells) → OnErr result ((line : LineOf) → number_at numbers' line ≡ number_at numbers line) → map.len cells' < 2 ^ 64 → CellsCounted numbers' cells'
  cell_either (Ok x) numbers' cells' at v ok counted err same few = cell_put numbers' cells' at v ok counted few
  cell_either (Err e) numbers' cells' at v ok counted err same few = cells_kept numbers' cells' same err

-- without cells nothing is counted
pub no_cells_counted : {T : Type 0} (numbers : map.FinMap line_cmp ℕ) (cells : map.FinMap spot_cmp T) → numbers ≡ map.empty → cells ≡ map.empty → CellsCounted numbers cells
no_cells_counted {T} numbers cells n c = record {
  on_lines = λ line. (λ i. number_at (n i) line) ∙ ap (λ o. unwrap_or o 0) (map.get-empty {X = ℕ} line_cmp line)
      ∙ sym ((λ i. on_line line (c i)) ∙ count-empty {X = T} spots_total exact_spots (λ spot _. lies_on line spot));
  few_cells = omega (arith, ap map.len c, map.len-empty spot_cmp T);
}

module _ {L : Type 0} (draws : Rank → L → Bool) (numbers : LineNumbers) (lines : map.FinMap nat_cmp L) (h : LinesCounted draws numbers lines) (n : ℕ) where
  -- the number of the lines that draw those of a rank
  abbrev drawing : Rank → map.FinMap nat_cmp L → ℕ
  drawing rank m = count (λ _ line. draws rank line) m

  exchanged_right : (put : Option L) (lines' : map.FinMap nat_cmp L) → map.len lines' < 2 ^ 64
      → ((rank : Rank) → drawing rank lines' + one_if (passes (draws rank) (map.get lines n)) ≡ drawing rank lines + one_if (passes (draws rank) put))
      → LinesCounted draws (exchanged numbers (numbers_of draws (map.get lines n)) (numbers_of draws put)) lines'
  exchanged_right put lines' few balance = record {
    numbers_are = elim [ first ↦ right first | inner ↦ right inner | last ↦ right last ];
    few = few;
  }
    where
      right : (rank : Rank) → min (number_of rank numbers - one_if (passes (draws rank) (map.get lines n)) + one_if (passes (draws rank) put)) (2 ^ 128 - 1) ≡ drawing rank lines'
      right rank =
          let there = count-remove nat_cmp_total map.nat_cmp-IsAntisymmetric (λ _ line. draws rank line) lines n in
          omega (arith, few, h.numbers_are rank, balance rank, there, count-le nat_cmp_total map.nat_cmp-IsAntisymmetric (λ _ line. draws rank line) lines')

  pub line_put : (line : L) (numbers' : LineNumbers) (lines' : map.FinMap nat_cmp L) → lines' ≡ map.insert lines n line → map.len lines' < 2 ^ 64
      → numbers' ≡ exchanged numbers (numbers_of draws (map.get lines n)) (numbers_of draws (Some line)) → LinesCounted draws numbers' lines'
  line_put line numbers' lines' e few f =
      subst (λ x. LinesCounted draws x lines') (sym f) (exchanged_right (Some line) lines' few (λ rank.
      ap (λ m. drawing rank m + one_if (passes (draws rank) (map.get lines n))) e ∙ count-insert nat_cmp_total map.nat_cmp-IsAntisymmetric (λ _ line. draws rank line) lines n line))

  pub line_taken : (numbers' : LineNumbers) (lines' : map.FinMap nat_cmp L) → lines' ≡ map.remove lines n → map.len lines' < 2 ^ 64
      → numbers' ≡ exchanged numbers (numbers_of draws (map.get lines n)) (numbers_of draws None) → LinesCounted draws numbers' lines'
  line_taken numbers' lines' e few f =
      subst (λ x. LinesCounted draws x lines') (sym f) (exchanged_right None lines' few (λ rank.
      let less = ap (λ m. drawing rank m + one_if (passes (draws rank) (map.get lines n))) e ∙ count-remove nat_cmp_total map.nat_cmp-IsAntisymmetric (λ _ line. draws rank line) lines n in
      omega (arith, less)))

-- without custom lines nothing is counted
pub no_lines_counted : {L : Type 0} (draws : Rank → L → Bool) (numbers : LineNumbers) (lines : map.FinMap nat_cmp L) → numbers ≡ record { first = 0; inner = 0; last = 0 } → lines ≡ map.empty → LinesCounted draws numbers lines
no_lines_counted {L} draws numbers lines n e = record {
  numbers_are = λ rank. ap (number_of rank) n ∙ none rank ∙ sym (ap (count (λ _ line. draws rank line)) e ∙ count-empty {X = L} nat_cmp_total map.nat_cmp-IsAntisymmetric (λ _ line. draws rank line));
  few = omega (arith, ap map.len e, map.len-empty nat_cmp L);
}
  where
    none : (rank : Rank) → number_of rank (record { first = 0; inner = 0; last = 0 }) ≡ 0
    none first = refl
    none inner = refl
    none last = refl

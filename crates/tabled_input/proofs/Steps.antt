-- What each step leaves of a row and of the rows.
use Rattle.std.proofs.lemmas.Grind.{common_steps}
use Rattle.std.proofs.lemmas.Bool.Decides.{nat_tests}
use Rattle.std.proofs.Common.{arith}
use Rattle.std.specs.Prelude.{slice_index_or}
use Rattle.std.proofs.Math.Seq.{get_or-append_seam}
use Rattle.std.proofs.lemmas.List.{length-append}
use Rattle.std.proofs.Common.{◌≡◌, ℕ, ◌-◌, get_or, length, true, false, List, [], ◌∷◌, ◌++◌, encode_utf8, append_assoc, append-nil, refl, sym, ap, ◌∙◌}
use Rattle.tabled_input.specs.declared.reader.At.{At}
use Rattle.tabled_input.specs.declared.reader.At.TheVariants.{RowStart, CellStart, Bare, Quoted, AfterQuote}
use Rattle.tabled_input.specs.declared.reader.Step.{Step}
use Rattle.tabled_input.specs.declared.reader.Step.TheVariants as step
use Rattle.tabled_input.specs.Quoted.{step_at, left_at, end_at, is_quoted, last_cell, row_before, cell_before, letter_before, nothing_left}
use Rattle.tabled_input.specs.Reading.{is_row_start, onto}

abbrev pub Rows : Type 0
Rows = List (List (List ℕ))

onto_row : (row : List (List ℕ)) (cell : List ℕ) (rows : Rows) → onto row cell (row_before rows) ≡ (row ++ cell ∷ []) ∷ rows
onto_row row cell rows = ap (λ bytes. (row ++ bytes ∷ []) ∷ rows) (append-nil cell)

onto_cell : (row : List (List ℕ)) (cell : List ℕ) (rows : Rows) → onto row cell (cell_before rows) ≡ onto (row ++ cell ∷ []) [] rows
onto_cell row cell [] = refl
onto_cell row cell ([] ∷ rows) = ap (λ bytes. (row ++ bytes ∷ []) ∷ rows) (append-nil cell)
onto_cell row cell ((first ∷ more) ∷ rows) =
    ap (λ bytes. (row ++ bytes ∷ first ∷ more) ∷ rows) (append-nil cell) ∙ ap (λ cells. cells ∷ rows) (sym (append_assoc row (cell ∷ []) (first ∷ more)))

onto_letter : (row : List (List ℕ)) (cell : List ℕ) (c : ℕ) (rows : Rows) → onto row cell (letter_before c rows) ≡ onto row (cell ++ encode_utf8 c) rows
onto_letter row cell c [] = refl
onto_letter row cell c ([] ∷ rows) = refl
onto_letter row cell c ((first ∷ more) ∷ rows) = ap (λ bytes. (row ++ bytes ∷ more) ∷ rows) (sym (append_assoc cell (encode_utf8 c) first))

onto_none : (rows : Rows) → onto [] [] rows ≡ rows
onto_none [] = refl
onto_none ([] ∷ rows) = refl
onto_none ((first ∷ more) ∷ rows) = refl

module _ (separator : ℕ) (at : At) (c : ℕ) (more : List ℕ) where
  left : Step → Rows
  left s =
      elim s [
        | step.Row ↦ row_before (left_at separator RowStart more)
        | step.Cell ↦ cell_before (left_at separator CellStart more)
        | step.Letter next ↦ letter_before c (left_at separator next more)
        | step.Nothing next ↦ left_at separator next more
      ]

  last : Step → At
  last s =
      elim s [
        | step.Row ↦ end_at separator RowStart more
        | step.Cell ↦ end_at separator CellStart more
        | step.Letter next ↦ end_at separator next more
        | step.Nothing next ↦ end_at separator next more
      ]

  left_by : (s : Step) → s ≡ step_at separator at c → left s ≡ left_at separator at (c ∷ more)
  unfolding left_at left
  left_by s e = ap left e

  end_by : (s : Step) → s ≡ step_at separator at c → last s ≡ end_at separator at (c ∷ more)
  unfolding end_at last
  end_by s e = ap last e

  pub left_by_row : step.Row ≡ step_at separator at c → row_before (left_at separator RowStart more) ≡ left_at separator at (c ∷ more)
  unfolding left
  left_by_row e = left_by step.Row e

  pub left_by_cell : step.Cell ≡ step_at separator at c → cell_before (left_at separator CellStart more) ≡ left_at separator at (c ∷ more)
  unfolding left
  left_by_cell e = left_by step.Cell e

  pub left_by_letter : (next : At) → step.Letter next ≡ step_at separator at c → letter_before c (left_at separator next more) ≡ left_at separator at (c ∷ more)
  unfolding left
  left_by_letter next e = left_by (step.Letter next) e

  pub left_by_nothing : (next : At) → step.Nothing next ≡ step_at separator at c → left_at separator next more ≡ left_at separator at (c ∷ more)
  unfolding left
  left_by_nothing next e = left_by (step.Nothing next) e

  pub end_by_row : (same : ℕ) → same ≡ separator → step.Row ≡ step_at separator at c → end_at same RowStart more ≡ end_at separator at (c ∷ more)
  unfolding last
  end_by_row same k e = ap (λ n. end_at n RowStart more) k ∙ end_by step.Row e

  pub end_by_cell : (same : ℕ) → same ≡ separator → step.Cell ≡ step_at separator at c → end_at same CellStart more ≡ end_at separator at (c ∷ more)
  unfolding last
  end_by_cell same k e = ap (λ n. end_at n CellStart more) k ∙ end_by step.Cell e

  pub end_by_letter : (next : At) → step.Letter next ≡ step_at separator at c → end_at separator next more ≡ end_at separator at (c ∷ more)
  unfolding last
  end_by_letter next e = end_by (step.Letter next) e

  pub end_by_nothing : (next : At) → step.Nothing next ≡ step_at separator at c → end_at separator next more ≡ end_at separator at (c ∷ more)
  unfolding last
  end_by_nothing next e = end_by (step.Nothing next) e

  pub row_taken : (same : ℕ) (old new : Rows) (row row_after : List (List ℕ)) (cell cell_after : List ℕ) → same ≡ separator → step.Row ≡ step_at separator at c
      → new ≡ old ++ (row ++ cell ∷ []) ∷ [] → row_after ≡ [] → cell_after ≡ []
      → new ++ onto row_after cell_after (left_at same RowStart more) ≡ old ++ onto row cell (left_at separator at (c ∷ more))
  row_taken same old new row row_after cell cell_after k e rows none nothing =
      ap (λ n. new ++ onto row_after cell_after (left_at n RowStart more)) k
      ∙ ap (λ cells. new ++ onto cells cell_after (left_at separator RowStart more)) none
      ∙ ap (λ bytes. new ++ onto [] bytes (left_at separator RowStart more)) nothing
      ∙ ap (λ rest. new ++ rest) (onto_none (left_at separator RowStart more))
      ∙ ap (λ front. front ++ left_at separator RowStart more) rows
      ∙ append_assoc old ((row ++ cell ∷ []) ∷ []) (left_at separator RowStart more)
      ∙ ap (λ rest. old ++ rest) (sym (onto_row row cell (left_at separator RowStart more)))
      ∙ ap (λ rest. old ++ onto row cell rest) (left_by_row e)

  pub cell_taken : (same : ℕ) (old new : Rows) (row row_after : List (List ℕ)) (cell cell_after : List ℕ) → same ≡ separator → step.Cell ≡ step_at separator at c
      → new ≡ old → row_after ≡ row ++ cell ∷ [] → cell_after ≡ []
      → new ++ onto row_after cell_after (left_at same CellStart more) ≡ old ++ onto row cell (left_at separator at (c ∷ more))
  cell_taken same old new row row_after cell cell_after k e rows cells nothing =
      ap (λ n. new ++ onto row_after cell_after (left_at n CellStart more)) k
      ∙ ap (λ cs. new ++ onto cs cell_after (left_at separator CellStart more)) cells
      ∙ ap (λ bytes. new ++ onto (row ++ cell ∷ []) bytes (left_at separator CellStart more)) nothing
      ∙ ap (λ front. front ++ onto (row ++ cell ∷ []) [] (left_at separator CellStart more)) rows
      ∙ ap (λ rest. old ++ rest) (sym (onto_cell row cell (left_at separator CellStart more)))
      ∙ ap (λ rest. old ++ onto row cell rest) (left_by_cell e)

  pub letter_taken : (next : At) (old new : Rows) (row row_after : List (List ℕ)) (cell cell_after : List ℕ) → step.Letter next ≡ step_at separator at c
      → new ≡ old → row_after ≡ row → cell_after ≡ cell ++ encode_utf8 c
      → new ++ onto row_after cell_after (left_at separator next more) ≡ old ++ onto row cell (left_at separator at (c ∷ more))
  letter_taken next old new row row_after cell cell_after e rows same put =
      (λ i. rows i ++ onto (same i) (put i) (left_at separator next more))
      ∙ ap (λ rest. old ++ rest) (sym (onto_letter row cell c (left_at separator next more)))
      ∙ ap (λ rest. old ++ onto row cell rest) (left_by_letter next e)

  pub nothing_taken : (next : At) (old : Rows) (row : List (List ℕ)) (cell : List ℕ) → step.Nothing next ≡ step_at separator at c
      → old ++ onto row cell (left_at separator next more) ≡ old ++ onto row cell (left_at separator at (c ∷ more))
  nothing_taken next old row cell e = ap (λ rest. old ++ onto row cell rest) (left_by_nothing next e)

-- ---- the end of a text

pub begun : (at : At) → is_row_start at ≡ false → nothing_left at ≡ row_before []
begun RowStart e = absurd cc
begun CellStart e = refl
begun Bare e = refl
begun Quoted e = refl
begun AfterQuote e = refl

none_begun : (at : At) → is_row_start at ≡ true → nothing_left at ≡ []
none_begun RowStart e = refl
none_begun CellStart e = absurd cc
none_begun Bare e = absurd cc
none_begun Quoted e = absurd cc
none_begun AfterQuote e = absurd cc

pub nothing_to_end : (separator : ℕ) (at : At) (old : Rows) (row : List (List ℕ)) (cell : List ℕ) → is_row_start at ≡ true
    → old ≡ old ++ onto row cell (left_at separator at [])
unfolding left_at
nothing_to_end separator at old row cell e = grind (arith, nat_tests, common_steps)

pub row_to_end : (separator : ℕ) (at : At) (old new : Rows) (row : List (List ℕ)) (cell : List ℕ) → is_row_start at ≡ false
    → new ≡ old ++ (row ++ cell ∷ []) ∷ [] → new ≡ old ++ onto row cell (left_at separator at [])
unfolding left_at
row_to_end separator at old new row cell e rows = grind (arith, nat_tests, common_steps)

-- ---- the start of a text

pub first_taken : (separator same : ℕ) (at : At) (rows : Rows) (row : List (List ℕ)) (cell more : List ℕ) → same ≡ separator → at ≡ RowStart → rows ≡ [] → row ≡ [] → cell ≡ []
    → rows ++ onto row cell (left_at same at more) ≡ left_at separator RowStart more
first_taken separator same at rows row cell more k a r s t = grind (arith, nat_tests, common_steps)

-- ---- a text that ends within quotes

within_quotes : (at : At) → is_quoted at ≡ true → nothing_left at ≡ row_before []
within_quotes RowStart e = absurd cc
within_quotes CellStart e = absurd cc
within_quotes Bare e = absurd cc
within_quotes Quoted e = refl
within_quotes AfterQuote e = absurd cc

-- its last row has the cell that goes on
pub row_open : (separator : ℕ) (at : At) (old : Rows) (row : List (List ℕ)) (cell : List ℕ) → is_quoted at ≡ true
    → old ++ onto row cell (left_at separator at []) ≡ old ++ (row ++ cell ∷ []) ∷ []
unfolding left_at
row_open separator at old row cell e = ap (λ rest. old ++ onto row cell rest) (within_quotes at e) ∙ ap (λ rest. old ++ rest) (onto_row row cell [])

last_of : {X : Type 0} (xs : List X) (x d : X) → get_or (xs ++ x ∷ []) (length (xs ++ x ∷ []) - 1) d ≡ x
last_of xs x d =
    let last : length (xs ++ x ∷ []) - 1 ≡ length xs = omega (arith, length-append xs (x ∷ [])) in
    ap (λ n. get_or (xs ++ x ∷ []) n d) last ∙ get_or-append_seam xs x [] d

pub last_of_row_open : (old : Rows) (row : List (List ℕ)) (cell : List ℕ) → last_cell (old ++ (row ++ cell ∷ []) ∷ []) ≡ cell
last_of_row_open old row cell = ap (λ cells. slice_index_or cells (length cells - 1) []) (last_of old (row ++ cell ∷ []) []) ∙ last_of row cell []

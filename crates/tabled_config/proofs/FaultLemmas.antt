-- The first of all faults, found in a walk over what is tested.
use Rattle.std.proofs.Common.{◌≡◌, ℕ, ◌+◌, ◌<◌, Bool, true, false, Option, None, is_some, List, [], ◌∷◌, ◌++◌, length, get_or, drop, map, refl, sym, ap, ◌∙◌, ◌==◌, arith, eq-eqb, slice_get}
use Rattle.std.specs.List.{All, flat_map, enumerate_from}
use Rattle.std.proofs.lemmas.Bool.{eqb-true}
use Rattle.std.proofs.lemmas.Bool.Decides.{nat_tests}
use Rattle.std.proofs.lemmas.List.Elements.{All-nil, All-cons}
use Rattle.std.proofs.lemmas.List.FromFn.{length-enumerate_from, get_or-enumerate_from}
use Rattle.std.proofs.lemmas.List.{drop_more, get_or-map, length-map}
use Rattle.tabled_config.specs.declared.print_error.PrintError.{PrintError}
use Rattle.tabled_width.specs.Texts.{Table}
use Rattle.tabled_configuration.specs.Configuration.{Configuration}
use Rattle.tabled_config.specs.Refusal.{unless, row_faults, table_faults, span_faults, first_refusal}

-- the first element of a list that begins with others
first_here : {E : Type 0} (xs ys : List E) (r : Option E) → r ≡ slice_get xs 0 → is_some r ≡ true → r ≡ slice_get (xs ++ ys) 0
first_here [] ys r e some = absurd (let none = sym (ap is_some e) ∙ some in cc)
first_here (x ∷ xs) ys r e some = e

first_later : {E : Type 0} (xs ys : List E) (r : Option E) → r ≡ slice_get xs 0 → is_some r ≡ false → slice_get (xs ++ ys) 0 ≡ slice_get ys 0
first_later [] ys r e none = refl
first_later (x ∷ xs) ys r e none = absurd (let some = sym (ap is_some e) ∙ none in cc)

-- the first fault of those things that stand at a place or after it
abbrev pub first_from : {A X E : Type 0} → (ℕ × X → List E) → (A → X) → List A → ℕ → Option E
first_from f g things i = slice_get (flat_map f (enumerate_from i (drop i (map g things)))) 0

module _ {A X E : Type 0} (f : ℕ × X → List E) (g : A → X) (things : List A) (i : ℕ) where
  -- what stands at the place, and the rest
  apart : (thing : A) → i < length things → thing ≡ get_or things i thing → drop i (map g things) ≡ g thing ∷ drop (i + 1) (map g things)
  apart thing within read =
      let inside : i < length (map g things) = rw length-map within in
      drop_more (map g things) i (g thing) inside
      ∙ ap (λ x. x ∷ drop (i + 1) (map g things)) (get_or-map g things i thing (g thing) within ∙ ap g (sym read))

  -- the thing at the place has the fault
  pub first_from_here : (thing : A) (x : X) (r : Option E) → i < length things → thing ≡ get_or things i thing → x ≡ g thing → r ≡ slice_get (f (i, x)) 0 → is_some r ≡ true → r ≡ first_from f g things i
  first_from_here thing x r within read same e some = rw (apart thing within read, ← same) (first_here (f (i, x)) _ r e some)

  -- it has none
  pub first_from_later : (thing : A) (x : X) (r : Option E) → i < length things → thing ≡ get_or things i thing → x ≡ g thing → r ≡ slice_get (f (i, x)) 0 → is_some r ≡ false → first_from f g things i ≡ first_from f g things (i + 1)
  first_from_later thing x r within read same e none = rw (apart thing within read, ← same) (first_later (f (i, x)) _ r e none)

-- where there are as many things as there ought to be, the first fault is that of the things
pub first_after_count : {A X : Type 0} (f : ℕ × X → List PrintError) (g : A → X) (things : List A) (count : ℕ) (fault : PrintError) → length things ≡ count → first_from f g things 0 ≡ slice_get (unless (length (map g things) == count) fault ++ flat_map f (enumerate_from 0 (map g things))) 0
first_after_count f g things count fault e =
    ap (λ b. slice_get (unless b fault ++ flat_map f (enumerate_from 0 (map g things))) 0)
    (sym (eq-eqb (length (map g things)) count (length-map things g ∙ e)))

none_first : {E : Type 0} (xs : List E) → slice_get xs 0 ≡ None → xs ≡ []
none_first [] e = refl
none_first (x ∷ xs) e = absurd cc

pub none_front : {E : Type 0} (xs ys : List E) → xs ++ ys ≡ [] → xs ≡ []
none_front [] ys e = refl
none_front (x ∷ xs) ys e = absurd cc

pub none_rest : {E : Type 0} (xs ys : List E) → xs ++ ys ≡ [] → ys ≡ []
none_rest [] ys e = e
none_rest (x ∷ xs) ys e = absurd cc

pub no_fault : (b : Bool) (fault : PrintError) → unless b fault ≡ [] → b ≡ true
no_fault true fault e = refl
no_fault false fault e = absurd cc

-- a table that is not refused has no fault
pub no_faults : (cfg : Configuration) (widths heights : ℕ → ℕ) (shape : ℕ × ℕ) (cells : Table) → first_refusal cfg shape widths heights cells ≡ None → table_faults widths heights shape cells ≡ []
no_faults cfg widths heights shape cells e =
    none_rest (span_faults cfg) (table_faults widths heights shape cells) (none_first (span_faults cfg ++ table_faults widths heights shape cells) e)

-- one with no fault has as many rows as it ought to
pub right_rows : (widths heights : ℕ → ℕ) (shape : ℕ × ℕ) (cells : Table) → table_faults widths heights shape cells ≡ [] → length cells ≡ shape.0
right_rows widths heights shape cells e = grind (arith, nat_tests)

none_each : {X E : Type 0} (f : X → List E) (xs : List X) → flat_map f xs ≡ [] → All (λ x. f x ≡ []) xs
none_each f [] e = All-nil (λ x. f x ≡ [])
none_each f (x ∷ xs) e = All-cons (λ x. f x ≡ []) x xs (none_front (f x) (flat_map f xs) e) (none_each f xs (none_rest (f x) (flat_map f xs) e))

-- where none of many things has a fault, the one at a place has none
pub none_at : {X E : Type 0} (f : ℕ × X → List E) (xs : List X) → flat_map f (enumerate_from 0 xs) ≡ [] → (k : ℕ) (d : X) → k < length xs → f (k, get_or xs k d) ≡ []
none_at f xs e k d within =
    let start : k ≡ 0 + k = omega arith in
    let long = length-enumerate_from 0 xs in
    ap (λ m. f (m, get_or xs k d)) start ∙ ap f (sym (get_or-enumerate_from 0 xs k (0, d) within)) ∙ none_each f (enumerate_from 0 xs) e k (0, d) (omega (arith, long))

-- and each row has as many cells
pub right_columns : (widths heights : ℕ → ℕ) (shape : ℕ × ℕ) (cells : Table) → table_faults widths heights shape cells ≡ [] → All (λ row. length row ≡ shape.1) cells
right_columns widths heights shape cells e k d within =
    let of_rows = none_rest (unless (length cells == shape.0) PrintError.RowCount) (flat_map (row_faults widths heights shape.1) (enumerate_from 0 cells)) e in
    eqb-true (length (get_or cells k d)) shape.1
    (no_fault (length (get_or cells k d) == shape.1) (PrintError.ColumnCount k) (none_front _ _ (none_at (row_faults widths heights shape.1) cells of_rows k d within)))

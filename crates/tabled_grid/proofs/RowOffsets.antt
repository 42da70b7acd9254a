-- The offsets of a row are those from its first place on, up to the next row.
use Rattle.std.proofs.Common.{◌≡◌, ◌≤◌, ◌==◌, ℕ, zero, suc, Bool, true, false, is_gt, IsFalse, ◌↔◌, Option, None, Some, refl, sym, ap, ◌∙◌, arith}
use Rattle.std.specs.Prelude.{is_some}
use Rattle.std.specs.FinMap as map
use Rattle.std.specs.Cmp.{nat_cmp_is}
use Rattle.std.specs.Ordering.{nat_cmp, ordering_then}
use Rattle.std.specs.declared.cmp.Ordering.{Ordering}
use Rattle.std.specs.declared.cmp.Ordering.TheVariants.{Less, Equal, Greater}
use Rattle.std.proofs.lemmas.Bool.Decides.{nat_tests}
use Rattle.std.proofs.lemmas.Map.Keys.{le_from_not_gt}
use Rattle.tabled_places.specs.declared.keys.EdgePlace.{EdgePlace}
use Rattle.tabled_object.specs.declared.offset.Offset.{Offset}
use Rattle.tabled_places.specs.Keys.{edge_place_cmp}
use Rattle.tabled_places.specs.State.{edge_place}
use Rattle.tabled_kept.specs.FirstFrom.{IsFirstFrom}

zero_first : (n : ℕ) → is_gt (nat_cmp 0 n) ≡ false
zero_first zero = ap is_gt (sym (nat_cmp_is 0 0 Equal refl))
zero_first (suc n) = ap is_gt (sym (nat_cmp_is 0 (suc n) Less (omega arith)))

from_zero : (n : ℕ) (rest : Ordering) → is_gt rest ≡ false → is_gt (ordering_then (nat_cmp 0 n) rest) ≡ false
from_zero zero rest h = ap (λ o. is_gt (ordering_then o rest)) (sym (nat_cmp_is 0 0 Equal refl)) ∙ h
from_zero (suc n) rest h = ap (λ o. is_gt (ordering_then o rest)) (sym (nat_cmp_is 0 (suc n) Less (omega arith)))

in_row : (r c : ℕ) (rest : Ordering) → is_gt rest ≡ false → is_gt (ordering_then (nat_cmp r r) (ordering_then (nat_cmp 0 c) rest)) ≡ false
in_row r c rest h = ap (λ o. is_gt (ordering_then o (ordering_then (nat_cmp 0 c) rest))) (sym (nat_cmp_is r r Equal refl)) ∙ from_zero c rest h

from_start : (r c : ℕ) (o : Offset) → is_gt (edge_place_cmp (edge_place r 0 (Offset.Start 0)) (edge_place r c o)) ≡ false
from_start r c (Offset.Start n) = in_row r c (nat_cmp 0 n) (zero_first n)
from_start r c (Offset.End n) = in_row r c Less refl

first_part : (a b : Ordering) → is_gt (ordering_then a b) ≡ false → is_gt a ≡ false
first_part Less b h = refl
first_part Equal b h = refl
first_part Greater b h = h

in_order : (p q : EdgePlace) → is_gt (edge_place_cmp p q) ≡ false → p.row ≤ q.row
in_order p q h = le_from_not_gt p.row q.row (first_part (nat_cmp p.row q.row) _ h)

none_is : {A : Type 0} (o : Option A) → is_some o ≡ false → o ≡ None
none_is None h = refl
none_is (Some x) h = absurd cc

module _ {T : Type 0} (offsets : map.FinMap edge_place_cmp T) (r : ℕ) (first : EdgePlace) (is : IsFirstFrom edge_place_cmp offsets (edge_place r 0 (Offset.Start 0)) (Some first)) where
  after : r ≤ first.row
  after = in_order (edge_place r 0 (Offset.Start 0)) first is.0.0

  -- where the first one lies in another row, there is none
  none_there : (first.row == r) ≡ false → (c : ℕ) (o : Offset) → map.get offsets (edge_place r c o) ≡ None
  none_there other c o = by_case (is_some (map.get offsets (edge_place r c o))) refl
    where
      by_case : (b : Bool) → is_some (map.get offsets (edge_place r c o)) ≡ b → map.get offsets (edge_place r c o) ≡ None
      by_case false kept = none_is (map.get offsets (edge_place r c o)) kept
      by_case true kept = absurd (let before = in_order first (edge_place r c o) (is.1 (edge_place r c o) (from_start r c o, kept)) in grind (arith, nat_tests, after, before, other))

  some_there : ((c : ℕ) (o : Offset) → map.get offsets (edge_place r c o) ≡ None) → (first.row == r) ≡ false
  some_there none = by_case (first.row == r) refl
    where
      by_case : (b : Bool) → (first.row == r) ≡ b → b ≡ false
      by_case false same = refl
      by_case true same = absurd (
          let row : first.row ≡ r = grind (arith, nat_tests) in
          let kept = is.0.1 in
          let gone = ap is_some (none first.col first.offset) in
          let at : is_some (map.get offsets first) ≡ is_some (map.get offsets (edge_place r first.col first.offset)) = ap (λ n. is_some (map.get offsets (edge_place n first.col first.offset))) row in
          let no : true ≡ false = sym kept ∙ at ∙ gone in cc
          )

  pub row_told : IsFalse (first.row == r) ↔ ((c : ℕ) (o : Offset) → map.get offsets (edge_place r c o) ≡ None)
  row_told = (none_there, some_there)

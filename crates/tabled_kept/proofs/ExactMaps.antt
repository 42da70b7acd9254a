-- Maps that are equal by an equality which only equal values have are one.
use Rattle.std.proofs.Common.{◌≡◌, Bool, true, ◌&&◌, Some, None, List, [], ◌∷◌, refl, ap, Ordering}
use Rattle.std.specs.Option.{option_eq}
use Rattle.std.specs.Ordering.{eq_by_cmp}
use Rattle.std.specs.Cmp.{Equal-is}
use Rattle.std.specs.Cmp.Lexicographic.{pointwise}
use Rattle.std.specs.FinMap as map
use Rattle.std.proofs.lemmas.Bool.{and_parts}
use Rattle.tabled_kept.specs.Same.{same_map}

-- only equal values pass
abbrev pub IsExact : {A : Type 0} → (A → A → Bool) → Type 0
IsExact {A} E = (x y : A) → E x y ≡ true → x ≡ y

pub exact_options : {A : Type 0} {E : A → A → Bool} → IsExact E → IsExact (option_eq E)
exact_options exact None None h = refl
exact_options exact (Some x) (Some y) h = ap Some (exact x y h)
exact_options exact a b h = absurd cc

pub exact_maps : {K X : Type 0} {R : K → K → Ordering} {E : X → X → Bool} → map.IsAntisymmetric R → IsExact E → IsExact (same_map {R = R} E)
exact_maps {K} {X} {R} {E} keys exact m n h = map.same_entries_map m n (pairs (map.entries m) (map.entries n) h)
  where
    pairs : (es fs : List (K × X)) → pointwise (λ a b. eq_by_cmp R a.0 b.0 && E a.1 b.1) es fs ≡ true → es ≡ fs
    pairs [] [] h = refl
    pairs [] (f ∷ fs) h = absurd cc
    pairs (e ∷ es) [] h = absurd cc
    pairs (e ∷ es) (f ∷ fs) h =
        let heads = and_parts (eq_by_cmp R e.0 f.0 && E e.1 f.1) (pointwise (λ a b. eq_by_cmp R a.0 b.0 && E a.1 b.1) es fs) h in
        let entry = and_parts (eq_by_cmp R e.0 f.0) (E e.1 f.1) heads.0 in
        λ i. (keys e.0 f.0 ((Equal-is (R e.0 f.0)).0 entry.0) i, exact e.1 f.1 entry.1 i) ∷ pairs es fs heads.1 i

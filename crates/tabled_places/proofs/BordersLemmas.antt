-- When a class record has nothing.
use mathlib.Core.Bool.{beq}
use Rattle.std.proofs.Common.{◌≡◌, subst, Bool, true, false, not, ◌||◌, Option, Some, None, is_some, List, [], ◌∷◌, refl, sym, ap, ◌∙◌, ◌↔◌, IsTrue}
use Rattle.std.specs.List.{list_any}
use Rattle.std.proofs.lemmas.Bool.{not-true}
use Rattle.tabled_places.specs.declared.borders.Borders.{Borders}
use Rattle.tabled_places.specs.Site.{Horizontal, Vertical, first, inner, last, Class, edges, crossings, class_value, same_class}
use Rattle.tabled_places.specs.State.{line_classes, has_class, HasNothing}
use Rattle.tabled_places.proofs.SameSite.{same_class-eq}

or_false : (a b : Bool) → (a || b) ≡ false → (a ≡ false) × (b ≡ false)
or_false true b h = absurd cc
or_false false b h = (refl, h)

no_value : {T : Type 0} (o : Option T) → is_some o ≡ false → o ≡ None
no_value None h = refl
no_value (Some x) h = absurd cc

many_false : (a b c d e f : Bool) → a ≡ false → b ≡ false → c ≡ false → d ≡ false → e ≡ false → f ≡ false → not (a || (b || (c || (d || (e || (f || false)))))) ≡ true
many_false false false false false false false p q r s t u = refl
many_false a b c d e f p q r s t u = absurd cc

module _ {T : Type 0} (borders : Borders T) where
  none_of : (cs : List Class) → has_class borders cs ≡ false → (c : Class) → list_any (same_class c) cs ≡ true → class_value c borders ≡ None
  none_of [] h c among = absurd cc
  none_of (d ∷ ds) h c among =
      elim (same_class c d) as (λ b. same_class c d ≡ b → (b || list_any (same_class c) ds) ≡ true → class_value c borders ≡ None) [
        | true ↦ λ same _. ap (λ k. class_value k borders) (same_class-eq c d same) ∙ no_value (class_value d borders) (or_false (is_some (class_value d borders)) (has_class borders ds) h).0
        | false ↦ λ _ rest. none_of ds (or_false (is_some (class_value d borders)) (has_class borders ds) h).1 c rest
      ] refl among

  none_in : HasNothing borders → (cs : List Class) → has_class borders cs ≡ false
  none_in nothing [] = refl
  none_in nothing (c ∷ cs) = ap (λ o. is_some o || has_class borders cs) (nothing c) ∙ none_in nothing cs

  -- what is found of each line says together whether there is nothing
  pub nothing_answer : IsTrue (not (has_class borders (line_classes Horizontal first) || (has_class borders (line_classes Horizontal inner) || (has_class borders (line_classes Horizontal last) || (has_class borders (line_classes Vertical first) || (has_class borders (line_classes Vertical inner) || (has_class borders (line_classes Vertical last) || false))))))) ↔ HasNothing borders
  nothing_answer = (
    λ h.
        let top = or_false (has_class borders (line_classes Horizontal first)) _ (not-true _ h) in
        let horizontal = or_false (has_class borders (line_classes Horizontal inner)) _ top.1 in
        let bottom = or_false (has_class borders (line_classes Horizontal last)) _ horizontal.1 in
        let left = or_false (has_class borders (line_classes Vertical first)) _ bottom.1 in
        let vertical = or_false (has_class borders (line_classes Vertical inner)) _ left.1 in
        let right = or_false (has_class borders (line_classes Vertical last)) _ vertical.1 in
        each top.0 horizontal.0 bottom.0 left.0 vertical.0 right.0,
    λ nothing. many_false _ _ _ _ _ _ (none_in nothing (line_classes Horizontal first)) (none_in nothing (line_classes Horizontal inner)) (none_in nothing (line_classes Horizontal last)) (none_in nothing (line_classes Vertical first)) (none_in nothing (line_classes Vertical inner)) (none_in nothing (line_classes Vertical last)),
  )
    where
      each : has_class borders (line_classes Horizontal first) ≡ false → has_class borders (line_classes Horizontal inner) ≡ false → has_class borders (line_classes Horizontal last) ≡ false → has_class borders (line_classes Vertical first) ≡ false → has_class borders (line_classes Vertical inner) ≡ false → has_class borders (line_classes Vertical last) ≡ false → HasNothing borders
      each t h b l v r (edges Horizontal first) = none_of (line_classes Horizontal first) t (edges Horizontal first) refl
      each t h b l v r (edges Horizontal inner) = none_of (line_classes Horizontal inner) h (edges Horizontal inner) refl
      each t h b l v r (edges Horizontal last) = none_of (line_classes Horizontal last) b (edges Horizontal last) refl
      each t h b l v r (edges Vertical first) = none_of (line_classes Vertical first) l (edges Vertical first) refl
      each t h b l v r (edges Vertical inner) = none_of (line_classes Vertical inner) v (edges Vertical inner) refl
      each t h b l v r (edges Vertical last) = none_of (line_classes Vertical last) r (edges Vertical last) refl
      each t h b l v r (crossings first first) = none_of (line_classes Horizontal first) t (crossings first first) refl
      each t h b l v r (crossings first inner) = none_of (line_classes Horizontal first) t (crossings first inner) refl
      each t h b l v r (crossings first last) = none_of (line_classes Horizontal first) t (crossings first last) refl
      each t h b l v r (crossings inner first) = none_of (line_classes Horizontal inner) h (crossings inner first) refl
      each t h b l v r (crossings inner inner) = none_of (line_classes Horizontal inner) h (crossings inner inner) refl
      each t h b l v r (crossings inner last) = none_of (line_classes Horizontal inner) h (crossings inner last) refl
      each t h b l v r (crossings last first) = none_of (line_classes Horizontal last) b (crossings last first) refl
      each t h b l v r (crossings last inner) = none_of (line_classes Horizontal last) b (crossings last inner) refl
      each t h b l v r (crossings last last) = none_of (line_classes Horizontal last) b (crossings last last) refl

beq_true : (b : Bool) → beq b true ≡ b
beq_true true = refl
beq_true false = refl

-- the same, of the six results in a list in which a true one is searched
pub nothing_found : {T : Type 0} (borders : Borders T) (found a b c d e f : Bool) → found ≡ list_any (λ y. beq y true) (a ∷ b ∷ c ∷ d ∷ e ∷ f ∷ []) → a ≡ has_class borders (line_classes Horizontal first) → b ≡ has_class borders (line_classes Horizontal inner) → c ≡ has_class borders (line_classes Horizontal last) → d ≡ has_class borders (line_classes Vertical first) → e ≡ has_class borders (line_classes Vertical inner) → f ≡ has_class borders (line_classes Vertical last) → IsTrue (not found) ↔ HasNothing borders
nothing_found borders found a b c d e f is p q r s t u =
    let same : found ≡ list_any (λ y. y) (a ∷ b ∷ c ∷ d ∷ e ∷ f ∷ []) = is ∙ ap (λ test. list_any test (a ∷ b ∷ c ∷ d ∷ e ∷ f ∷ [])) (λ i y. beq_true y i) in
    let all : list_any (λ y. y) (a ∷ b ∷ c ∷ d ∷ e ∷ f ∷ []) ≡ list_any (λ y. y) (has_class borders (line_classes Horizontal first) ∷ has_class borders (line_classes Horizontal inner) ∷ has_class borders (line_classes Horizontal last) ∷ has_class borders (line_classes Vertical first) ∷ has_class borders (line_classes Vertical inner) ∷ has_class borders (line_classes Vertical last) ∷ []) =
    λ i. list_any (λ y. y) (p i ∷ q i ∷ r i ∷ s i ∷ t i ∷ u i ∷ []) in
    subst (λ yes. IsTrue (not yes) ↔ HasNothing borders) (sym (same ∙ all)) (nothing_answer borders)

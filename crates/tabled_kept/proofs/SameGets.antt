-- Two finite maps are the same, pair by pair, exactly where they have the same under every key.
use Rattle.std.proofs.Common.{◌≡◌, Bool, true, false, cond, ◌&&◌, Option, Some, None, List, [], ◌∷◌, refl, sym, ap, ◌∙◌, option_copied, not, Bor, IsTrue, ◌↔◌, T, Ordering, Less, Equal, Greater}
use Rattle.std.specs.Option.{option_eq}
use Rattle.std.specs.Ordering.{eq_by_cmp, is_eq, is_lt, ordering_reverse}
use Rattle.std.specs.Cmp.{IsTotalOrder, Equal-is, alike_right, tied_itself}
use Rattle.std.specs.Cmp.Lexicographic.{pointwise}
use Rattle.std.specs.FinMap as map
use Rattle.std.specs.FinMap.Entries.{below_all, is_sorted}
use Rattle.std.proofs.lemmas.Bool.{and_parts}
use Rattle.tabled_kept.specs.Same.{same_map}

pub all_of : {a b : Bool} → a ≡ true → b ≡ true → (a && b) ≡ true
all_of p q = λ i. p i && q i

holds : (b : Bool) → T b → b ≡ true
holds true h = refl
holds false h = absurd h

less : (o : Ordering) → is_lt o ≡ true → o ≡ Less
less Less h = refl
less o h = absurd cc

module _ {K X : Type 0} {R : K → K → Ordering} (o : IsTotalOrder R) (E : X → X → Bool) where
  abbrev alike : K × X → K × X → Bool
  alike a b = eq_by_cmp R a.0 b.0 && E a.1 b.1

  -- a key that is before one which is before all
  lower : (q x : K) (es : List (K × X)) → R q x ≡ Less → below_all R x es ≡ true → below_all R q es ≡ true
  lower q x [] before h = refl
  lower q x (e ∷ es) before h =
      let f = and_parts (is_lt (R x e.0)) (below_all R x es) h in
      all_of (ap is_lt (o.trans q x e.0 before (less (R x e.0) f.0))) (lower q x es before f.1)

  level_with : (q x : K) (es : List (K × X)) → R q x ≡ Equal → below_all R x es ≡ true → below_all R q es ≡ true
  level_with q x [] tied h = refl
  level_with q x (e ∷ es) tied h =
      let f = and_parts (is_lt (R x e.0)) (below_all R x es) h in
      all_of (ap is_lt (o.congr q x e.0 tied) ∙ f.0) (level_with q x es tied f.1)

  -- a key before all is not there
  none_found : (q : K) (es : List (K × X)) → below_all R q es ≡ true → map.find R q es ≡ None
  none_found q [] h = refl
  none_found q (e ∷ es) h =
      let f = and_parts (is_lt (R q e.0)) (below_all R q es) h in
      ap (λ r. cond (is_eq r) (Some e.1) (map.find R q es)) (less (R q e.0) f.0) ∙ none_found q es f.1

  found_first : (e : K × X) (es : List (K × X)) → map.find R e.0 (e ∷ es) ≡ Some e.1
  found_first e es = ap (λ r. cond (is_eq r) (Some e.1) (map.find R e.0 es)) (tied_itself o e.0)

  -- entries that are alike, pair by pair, are found alike
  found_alike : (es fs : List (K × X)) → pointwise alike es fs ≡ true → (q : K) → option_eq E (map.find R q es) (map.find R q fs) ≡ true
  found_alike [] [] h q = refl
  found_alike (e ∷ es) (f ∷ fs) h q =
      let heads = and_parts (alike e f) (pointwise alike es fs) h in
      let entry = and_parts (eq_by_cmp R e.0 f.0) (E e.1 f.1) heads.0 in
      let tests : eq_by_cmp R q f.0 ≡ eq_by_cmp R q e.0 = sym (ap is_eq (alike_right o e.0 f.0 q ((Equal-is (R e.0 f.0)).0 entry.0))) in
      ap (λ b. option_eq E (map.find R q (e ∷ es)) (cond b (Some f.1) (map.find R q fs))) tests
      ∙ by_test (eq_by_cmp R q e.0) entry.1 (found_alike es fs heads.1 q)
    where
      by_test : (b : Bool) → E e.1 f.1 ≡ true → option_eq E (map.find R q es) (map.find R q fs) ≡ true → option_eq E (cond b (Some e.1) (map.find R q es)) (cond b (Some f.1) (map.find R q fs)) ≡ true
      by_test true here rest = here
      by_test false here rest = rest
  found_alike es fs h q = absurd cc

  some_none : (x : X) (a b : Option X) → a ≡ Some x → b ≡ None → option_eq E a b ≡ false
  some_none x a b p q = λ i. option_eq E (p i) (q i)

  none_some : (x : X) (a b : Option X) → a ≡ None → b ≡ Some x → option_eq E a b ≡ false
  none_some x a b p q = λ i. option_eq E (p i) (q i)

  -- entries in order that are found alike are alike, pair by pair
  alike_found : (es fs : List (K × X)) → is_sorted R es ≡ true → is_sorted R fs ≡ true → ((q : K) → option_eq E (map.find R q es) (map.find R q fs) ≡ true) → pointwise alike es fs ≡ true
  alike_found [] [] s t h = refl
  alike_found [] (f ∷ fs) s t h = absurd (let e = sym (h f.0) ∙ none_some f.1 None (map.find R f.0 (f ∷ fs)) refl (found_first f fs) in cc)
  alike_found (e ∷ es) [] s t h = absurd (let f = sym (h e.0) ∙ some_none e.1 (map.find R e.0 (e ∷ es)) None (found_first e es) refl in cc)
  alike_found (e ∷ es) (f ∷ fs) s t h =
      let s' = and_parts (below_all R e.0 es) (is_sorted R es) s in
      let t' = and_parts (below_all R f.0 fs) (is_sorted R fs) t in
      by_order (R e.0 f.0) refl s'.0 t'.0 (λ tied. alike_found es fs s'.1 t'.1 (others tied s'.0 t'.0))
    where
      others : R e.0 f.0 ≡ Equal → below_all R e.0 es ≡ true → below_all R f.0 fs ≡ true → (q : K) → option_eq E (map.find R q es) (map.find R q fs) ≡ true
      others tied of_es of_fs q = by_test (eq_by_cmp R q e.0) refl
        where
          by_test : (b : Bool) → eq_by_cmp R q e.0 ≡ b → option_eq E (map.find R q es) (map.find R q fs) ≡ true
          by_test true here =
              let to_e : R q e.0 ≡ Equal = (Equal-is (R q e.0)).0 here in
              let to_f : R q f.0 ≡ Equal = sym (alike_right o e.0 f.0 q tied) ∙ to_e in
              λ i. option_eq E (none_found q es (level_with q e.0 es to_e of_es) i) (none_found q fs (level_with q f.0 fs to_f of_fs) i)
          by_test false away =
              let away' : eq_by_cmp R q f.0 ≡ false = sym (ap is_eq (alike_right o e.0 f.0 q tied)) ∙ away in
              sym (λ i. option_eq E (cond (away i) (Some e.1) (map.find R q es)) (cond (away' i) (Some f.1) (map.find R q fs))) ∙ h q

      by_order : (r : Ordering) → R e.0 f.0 ≡ r → below_all R e.0 es ≡ true → below_all R f.0 fs ≡ true → (R e.0 f.0 ≡ Equal → pointwise alike es fs ≡ true) → pointwise alike (e ∷ es) (f ∷ fs) ≡ true
      by_order Less is of_es of_fs rest = absurd (let g = sym (h e.0) ∙ some_none e.1 (map.find R e.0 (e ∷ es)) (map.find R e.0 (f ∷ fs)) (found_first e es) (none_found e.0 (f ∷ fs) (all_of (ap is_lt is) (lower e.0 f.0 fs is of_fs))) in cc)
      by_order Greater is of_es of_fs rest =
          let back : R f.0 e.0 ≡ Less = o.antisymm f.0 e.0 ∙ ap ordering_reverse is in
          absurd (let g = sym (h f.0) ∙ none_some f.1 (map.find R f.0 (e ∷ es)) (map.find R f.0 (f ∷ fs)) (none_found f.0 (e ∷ es) (all_of (ap is_lt back) (lower f.0 e.0 es back of_es))) (found_first f fs) in cc)
      by_order Equal is of_es of_fs rest =
          let here : E e.1 f.1 ≡ true = sym (λ i. option_eq E (found_first e es i) (cond (is_eq (is i)) (Some f.1) (map.find R e.0 fs))) ∙ h e.0 in
          all_of (all_of (ap is_eq is) here) (rest is)

  pub get_alike : (m n : map.FinMap R X) → same_map E m n ≡ true → (q : K) → option_eq E (map.get m q) (map.get n q) ≡ true
  get_alike m n h q = (λ i. option_eq E (map.get-entries m q i) (map.get-entries n q i)) ∙ found_alike (map.entries m) (map.entries n) h q

  pub alike_get : (m n : map.FinMap R X) → ((q : K) → option_eq E (map.get m q) (map.get n q) ≡ true) → same_map E m n ≡ true
  alike_get m n h =
      alike_found (map.entries m) (map.entries n) (holds (is_sorted R (map.entries m)) (map.entries_sorted m)) (holds (is_sorted R (map.entries n)) (map.entries_sorted n))
      (λ q. sym (λ i. option_eq E (map.get-entries m q i) (map.get-entries n q i)) ∙ h q)

-- whether two values are the same decides whether the maps are
pub same_decided : {K X : Type 0} {R : K → K → Ordering} → IsTotalOrder R → (E : X → X → Bool) → (m n : map.FinMap R X) → ((q : K) → option_eq E (map.get m q) (map.get n q) ≡ true) → true ≡ same_map E m n
same_decided o E m n h = sym (alike_get o E m n h)

pub other_decided : {K X : Type 0} {R : K → K → Ordering} → IsTotalOrder R → (E : X → X → Bool) → (m n : map.FinMap R X) (q : K) → option_eq E (map.get m q) (map.get n q) ≡ false → false ≡ same_map E m n
other_decided o E m n q apart = by_test (same_map E m n) refl
  where
    by_test : (b : Bool) → same_map E m n ≡ b → false ≡ b
    by_test true same = absurd (let e = sym apart ∙ get_alike o E m n same q in cc)
    by_test false other = refl

-- two that are lent are compared as what they lend
lent_alike : {X : Type 0} (E : X → X → Bool) (a b : Option (Bor X)) → option_eq (λ x y. E x.now y.now) a b ≡ option_eq E (option_copied a) (option_copied b)
lent_alike E None None = refl
lent_alike E None (Some y) = refl
lent_alike E (Some x) None = refl
lent_alike E (Some x) (Some y) = refl

not_so : (b : Bool) → true ≡ not b → b ≡ false
not_so true e = absurd cc
not_so false e = refl

pub differ : {X : Type 0} (E : X → X → Bool) (a b : Option (Bor X)) (m n : Option X) → option_copied a ≡ m → option_copied b ≡ n → true ≡ not (option_eq (λ x y. E x.now y.now) a b) → option_eq E m n ≡ false
differ E a b m n e f h = sym (lent_alike E a b ∙ (λ i. option_eq E (e i) (f i))) ∙ not_so _ h

pub both_none : {X : Type 0} (E : X → X → Bool) (a b : Option X) → a ≡ None → b ≡ None → option_eq E a b ≡ true
both_none E a b e f = λ i. option_eq E (e i) (f i)

none_beside : {X : Type 0} (E : X → X → Bool) (a : Option X) → option_eq E a None ≡ true → a ≡ None
none_beside E None h = refl
none_beside E (Some x) h = absurd cc

beside_none : {X : Type 0} (E : X → X → Bool) (b : Option X) → option_eq E None b ≡ true → b ≡ None
beside_none E None h = refl
beside_none E (Some x) h = absurd cc

module _ {K X : Type 0} {R : K → K → Ordering} (o : IsTotalOrder R) (exact : map.IsAntisymmetric R) (E : X → X → Bool) where
  pub nothing_alike : true ≡ same_map {R = R} E map.empty map.empty
  nothing_alike = same_decided o E map.empty map.empty (λ q. both_none E _ _ (map.get-empty R q) (map.get-empty R q))

  -- a map is the same as the empty one where it is the empty one
  pub empty_beside : (b : Bool) (m : map.FinMap R X) → (IsTrue b ↔ (m ≡ map.empty)) → b ≡ same_map E m map.empty
  empty_beside true m h = nothing_alike ∙ ap (λ n. same_map E n map.empty) (sym (h.0 refl))
  empty_beside false m h = by_test (same_map E m map.empty) refl
    where
      by_test : (b : Bool) → same_map E m map.empty ≡ b → false ≡ b
      by_test true same = h.1 (map.same_map o exact m map.empty (λ q.
          none_beside E (map.get m q) (ap (option_eq E (map.get m q)) (sym (map.get-empty R q)) ∙ get_alike o E m map.empty same q) ∙ sym (map.get-empty R q)))
      by_test false other = refl

  pub beside_empty : (b : Bool) (m : map.FinMap R X) → (IsTrue b ↔ (m ≡ map.empty)) → b ≡ same_map E map.empty m
  beside_empty true m h = nothing_alike ∙ ap (same_map E map.empty) (sym (h.0 refl))
  beside_empty false m h = by_test (same_map E map.empty m) refl
    where
      by_test : (b : Bool) → same_map E map.empty m ≡ b → false ≡ b
      by_test true same = h.1 (map.same_map o exact m map.empty (λ q.
          beside_none E (map.get m q) (ap (λ x. option_eq E x (map.get m q)) (sym (map.get-empty R q)) ∙ get_alike o E map.empty m same q) ∙ sym (map.get-empty R q)))
      by_test false other = refl

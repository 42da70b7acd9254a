-- What a change of one part does to a kept map, and what the parts say of the whole.
use Rattle.std.proofs.Common.{◌≡◌, Bool, true, false, cond, ◌&&◌, Option, Some, None, is_some, IsSome, List, length, refl, sym, ap, subst, ◌∙◌, Ordering}
use Rattle.std.specs.Option.{option_eq}
use Rattle.std.specs.Ordering.{eq_by_cmp}
use Rattle.std.specs.Cmp.{IsTotalOrder, Equal-is, eq_by_cmp_equiv, both_ways}
use Rattle.std.specs.FinMap as map
use Rattle.std.proofs.lemmas.Bool.{and_parts}
use Rattle.tabled_kept.specs.Table.{table}
use Rattle.tabled_kept.specs.Same.{same_map}
use Rattle.tabled_kept.specs.Kept.{all_entries, Parted}
use Rattle.tabled_kept.proofs.SameGets.{all_of, get_alike, alike_get, both_none}
use Rattle.tabled_kept.proofs.Tables.{no-entries}
use Rattle.tabled_kept.proofs.Joining.{at_slot, ties_by_slot, never_ties, get-all_entries}

pub none_or : {X : Type 0} (x : Option X) → (IsSome x → x ≡ None) → x ≡ None
none_or None h = refl
none_or (Some x) h = h refl

module _ {S : Type 0} {Q : S → S → Ordering} (slots_total : IsTotalOrder Q) (exact_slots : map.IsAntisymmetric Q) {K : Type 0} {R : K → K → Ordering} (o : IsTotalOrder R) (exact : map.IsAntisymmetric R) {slot_of : K → Option S} {key_at : S → K} (back : (key : K) (s : S) → slot_of key ≡ Some s → key_at s ≡ key) {V : Type 0} where
  abbrev whole : map.FinMap Q V → List (K × V) → map.FinMap R V
  whole dense others = table R (all_entries key_at dense others)

  abbrev PartedHere : map.FinMap Q V → List (K × V) → Type 0
  PartedHere dense others = Parted R slot_of key_at dense others

  -- with the other parts as they are, something else at one slot, or under one key
  abbrev ChangedSlot : S → Option V → map.FinMap Q V → map.FinMap Q V → Type 0
  ChangedSlot s now old new = (t : S) → map.get new t ≡ cond (eq_by_cmp Q t s) now (map.get old t)

  abbrev ChangedKey : K → Option V → map.FinMap R V → map.FinMap R V → Type 0
  ChangedKey k now old new = (q : K) → map.get new q ≡ cond (eq_by_cmp R q k) now (map.get old q)

  pub read_dense : (dense : map.FinMap Q V) (others : List (K × V)) → PartedHere dense others → (k : K) (s : S) → slot_of k ≡ Some s → map.get (whole dense others) k ≡ map.get dense s
  read_dense dense others parted k s of_k = get-all_entries slots_total exact_slots o exact back dense others parted k ∙ ap (λ at. at_slot at (map.get dense) (map.get (table R others) k)) of_k

  pub read_others : (dense : map.FinMap Q V) (others : List (K × V)) → PartedHere dense others → (k : K) → slot_of k ≡ None → map.get (whole dense others) k ≡ map.get (table R others) k
  read_others dense others parted k of_k = get-all_entries slots_total exact_slots o exact back dense others parted k ∙ ap (λ at. at_slot at (map.get dense) (map.get (table R others) k)) of_k

  pub parted_none : (dense : map.FinMap Q V) (others : List (K × V)) → dense ≡ map.empty → length others ≡ 0 → PartedHere dense others
  parted_none dense others none few = record {
    in_place = λ s some. absurd (let nothing = sym (ap is_some (ap (λ m. map.get m s) none ∙ map.get-empty Q s)) ∙ some in cc);
    apart = λ key has. ap (λ m. map.get m key) (no-entries o exact others few) ∙ map.get-empty R key;
  }

  module _ (dense dense' : map.FinMap Q V) (others : List (K × V)) (parted : PartedHere dense others) (k : K) (s : S) (of_k : slot_of k ≡ Some s) (now : Option V) (changed : ChangedSlot s now dense dense') where
    parted_slot : PartedHere dense' others
    parted_slot = record { in_place = λ t some. at_test t some (eq_by_cmp Q t s) refl; apart = parted.apart }
      where
        at_test : (t : S) → IsSome (map.get dense' t) → (b : Bool) → eq_by_cmp Q t s ≡ b → slot_of (key_at t) ≡ Some t
        at_test t some true tied =
            let same : t ≡ s = exact_slots t s ((Equal-is (Q t s)).0 tied) in
            ap (λ u. slot_of (key_at u)) same ∙ ap slot_of (back k s of_k) ∙ of_k ∙ ap Some (sym same)
        at_test t some false apart =
            parted.in_place t (sym (ap is_some (changed t ∙ ap (λ b. cond b now (map.get dense t)) apart)) ∙ some)

    whole_slot : ChangedKey k now (whole dense others) (whole dense' others)
    whole_slot q = get-all_entries slots_total exact_slots o exact back dense' others parted_slot q ∙ by_slot (slot_of q) refl ∙ ap (cond (eq_by_cmp R q k) now) (sym (get-all_entries slots_total exact_slots o exact back dense others parted q))
      where
        other : map.FinMap Q V → Option S → Option V
        other m at = at_slot at (map.get m) (map.get (table R others) q)

        by_slot : (at : Option S) → slot_of q ≡ at → other dense' (slot_of q) ≡ cond (eq_by_cmp R q k) now (other dense (slot_of q))
        by_slot None of_q =
            ap (other dense') of_q
            ∙ sym (ap (λ b. cond b now (other dense (slot_of q))) (subst (λ x. eq_by_cmp R q x ≡ false) (back k s of_k) (never_ties slots_total exact_slots o exact back q (key_at s) s of_q (ap slot_of (back k s of_k) ∙ of_k))) ∙ ap (other dense) of_q)
        by_slot (Some t) of_q =
            ap (other dense') of_q ∙ changed t
            ∙ (λ i. cond (sym (ap (eq_by_cmp R q) (sym (back k s of_k)) ∙ ties_by_slot slots_total exact_slots o exact back q t s of_q (ap slot_of (back k s of_k) ∙ of_k)) i) now (other dense (sym of_q i)))

  module _ (dense : map.FinMap Q V) (others others' : List (K × V)) (parted : PartedHere dense others) (k : K) (of_k : slot_of k ≡ None) (now : Option V) (changed : ChangedKey k now (table R others) (table R others')) where
    not_tied : (q : K) (s : S) → slot_of q ≡ Some s → eq_by_cmp R q k ≡ false
    not_tied q s of_q = (eq_by_cmp_equiv o).symm q k ∙ never_ties slots_total exact_slots o exact back k q s of_k of_q

    parted_key : PartedHere dense others'
    parted_key = record { in_place = parted.in_place; apart = λ q has. by_slot q has (slot_of q) refl }
      where
        by_slot : (q : K) → IsSome (slot_of q) → (at : Option S) → slot_of q ≡ at → map.get (table R others') q ≡ None
        by_slot q has None of_q = absurd (let none = sym (ap is_some of_q) ∙ has in cc)
        by_slot q has (Some s) of_q = changed q ∙ ap (λ b. cond b now (map.get (table R others) q)) (not_tied q s of_q) ∙ parted.apart q has

    whole_key : ChangedKey k now (whole dense others) (whole dense others')
    whole_key q = get-all_entries slots_total exact_slots o exact back dense others' parted_key q ∙ by_slot (slot_of q) refl ∙ ap (cond (eq_by_cmp R q k) now) (sym (get-all_entries slots_total exact_slots o exact back dense others parted q))
      where
        at : List (K × V) → Option S → Option V
        at es slot = at_slot slot (map.get dense) (map.get (table R es) q)

        by_slot : (slot : Option S) → slot_of q ≡ slot → at others' (slot_of q) ≡ cond (eq_by_cmp R q k) now (at others (slot_of q))
        by_slot None of_q = ap (at others') of_q ∙ changed q ∙ ap (cond (eq_by_cmp R q k) now) (ap (at others) (sym of_q))
        by_slot (Some s) of_q = ap (at others') of_q ∙ sym (ap (λ b. cond b now (at others (slot_of q))) (not_tied q s of_q) ∙ ap (at others) of_q)

  -- a value put into a slot, or under a key without one, and a value taken there
  pub put_in_slot : (dense dense' : map.FinMap Q V) (others : List (K × V)) → PartedHere dense others → (k : K) (s : S) → slot_of k ≡ Some s → (v : V) → dense' ≡ map.insert dense s v → PartedHere dense' others × (whole dense' others ≡ map.insert (whole dense others) k v)
  put_in_slot dense dense' others parted k s of_k v e =
      let changed : ChangedSlot s (Some v) dense dense' = λ t. ap (λ m. map.get m t) e ∙ map.get-insert slots_total dense s v t in (
        parted_slot dense dense' others parted k s of_k (Some v) changed,
        map.same_map o exact _ _ (λ q. whole_slot dense dense' others parted k s of_k (Some v) changed q ∙ sym (map.get-insert o (whole dense others) k v q)),
      )

  pub taken_from_slot : (dense dense' : map.FinMap Q V) (others : List (K × V)) → PartedHere dense others → (k : K) (s : S) → slot_of k ≡ Some s → dense' ≡ map.remove dense s → PartedHere dense' others × (whole dense' others ≡ map.remove (whole dense others) k)
  taken_from_slot dense dense' others parted k s of_k e =
      let changed : ChangedSlot s None dense dense' = λ t. ap (λ m. map.get m t) e ∙ map.get-remove slots_total dense s t in (
        parted_slot dense dense' others parted k s of_k None changed,
        map.same_map o exact _ _ (λ q. whole_slot dense dense' others parted k s of_k None changed q ∙ sym (map.get-remove o (whole dense others) k q)),
      )

  pub put_beside : (dense : map.FinMap Q V) (others others' : List (K × V)) → PartedHere dense others → (k : K) → slot_of k ≡ None → (v : V) → table R others' ≡ map.insert (table R others) k v → PartedHere dense others' × (whole dense others' ≡ map.insert (whole dense others) k v)
  put_beside dense others others' parted k of_k v e =
      let changed : ChangedKey k (Some v) (table R others) (table R others') = λ q. ap (λ m. map.get m q) e ∙ map.get-insert o (table R others) k v q in (
        parted_key dense others others' parted k of_k (Some v) changed,
        map.same_map o exact _ _ (λ q. whole_key dense others others' parted k of_k (Some v) changed q ∙ sym (map.get-insert o (whole dense others) k v q)),
      )

  pub taken_beside : (dense : map.FinMap Q V) (others others' : List (K × V)) → PartedHere dense others → (k : K) → slot_of k ≡ None → table R others' ≡ map.remove (table R others) k → PartedHere dense others' × (whole dense others' ≡ map.remove (whole dense others) k)
  taken_beside dense others others' parted k of_k e =
      let changed : ChangedKey k None (table R others) (table R others') = λ q. ap (λ m. map.get m q) e ∙ map.get-remove o (table R others) k q in (
        parted_key dense others others' parted k of_k None changed,
        map.same_map o exact _ _ (λ q. whole_key dense others others' parted k of_k None changed q ∙ sym (map.get-remove o (whole dense others) k q)),
      )

  -- the whole is empty where both parts are
  pub empty_whole : (dense : map.FinMap Q V) (others : List (K × V)) → PartedHere dense others → dense ≡ map.empty → length others ≡ 0 → whole dense others ≡ map.empty
  empty_whole dense others parted none few = map.same_map o exact _ _ (λ q. get-all_entries slots_total exact_slots o exact back dense others parted q ∙ by_slot q (slot_of q) ∙ sym (map.get-empty R q))
    where
      by_slot : (q : K) (at : Option S) → at_slot at (map.get dense) (map.get (table R others) q) ≡ None
      by_slot q None = ap (λ m. map.get m q) (no-entries o exact others few) ∙ map.get-empty R q
      by_slot q (Some s) = ap (λ m. map.get m s) none ∙ map.get-empty Q s

  -- two are the same where both of their parts are
  pub same_parts : (E : V → V → Bool) (dense dense' : map.FinMap Q V) (others others' : List (K × V)) → PartedHere dense others → PartedHere dense' others' → (same_map E dense dense' && same_map E (table R others) (table R others')) ≡ same_map E (whole dense others) (whole dense' others')
  same_parts E dense dense' others others' parted parted' = both_ways _ _ forth back'
    where
      forth : (same_map E dense dense' && same_map E (table R others) (table R others')) ≡ true → same_map E (whole dense others) (whole dense' others') ≡ true
      forth h =
          let parts = and_parts _ _ h in
          alike_get o E _ _ (λ q.
          (λ i. option_eq E (get-all_entries slots_total exact_slots o exact back dense others parted q i) (get-all_entries slots_total exact_slots o exact back dense' others' parted' q i)) ∙ by_slot parts.0 parts.1 q (slot_of q))
        where
          by_slot : same_map E dense dense' ≡ true → same_map E (table R others) (table R others') ≡ true → (q : K) (at : Option S) → option_eq E (at_slot at (map.get dense) (map.get (table R others) q)) (at_slot at (map.get dense') (map.get (table R others') q)) ≡ true
          by_slot h k q None = get_alike o E _ _ k q
          by_slot h k q (Some s) = get_alike slots_total E _ _ h s

      back' : same_map E (whole dense others) (whole dense' others') ≡ true → (same_map E dense dense' && same_map E (table R others) (table R others')) ≡ true
      back' h = all_of
          (alike_get slots_total E dense dense' (λ s. by_kept s (map.get dense s) (map.get dense' s) refl refl))
          (alike_get o E (table R others) (table R others') (λ q. by_slot q (slot_of q) refl))
        where
          in_slot : (s : S) → slot_of (key_at s) ≡ Some s → option_eq E (map.get dense s) (map.get dense' s) ≡ true
          in_slot s of_s =
              sym (λ i. option_eq E (read_dense dense others parted (key_at s) s of_s i) (read_dense dense' others' parted' (key_at s) s of_s i)) ∙ get_alike o E _ _ h (key_at s)

          by_kept : (s : S) (x y : Option V) → map.get dense s ≡ x → map.get dense' s ≡ y → option_eq E (map.get dense s) (map.get dense' s) ≡ true
          by_kept s None None e f = both_none E _ _ e f
          by_kept s (Some x) y e f = in_slot s (parted.in_place s (ap is_some e))
          by_kept s None (Some y) e f = in_slot s (parted'.in_place s (ap is_some f))

          by_slot : (q : K) (at : Option S) → slot_of q ≡ at → option_eq E (map.get (table R others) q) (map.get (table R others') q) ≡ true
          by_slot q None of_q =
              sym (λ i. option_eq E (read_others dense others parted q of_q i) (read_others dense' others' parted' q of_q i)) ∙ get_alike o E _ _ h q
          by_slot q (Some s) of_q = both_none E _ _ (parted.apart q (ap is_some of_q)) (parted'.apart q (ap is_some of_q))

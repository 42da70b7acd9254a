-- A kept map, found key by key: in its slot, or among the others.
use Rattle.std.proofs.Common.{◌≡◌, Bool, true, false, cond, Option, Some, None, is_some, List, [], ◌∷◌, refl, sym, ap, ◌∙◌, unwrap_or, Ordering}
use Rattle.std.specs.Ordering.{is_eq, eq_by_cmp}
use Rattle.std.specs.Cmp.{IsTotalOrder, Equal-is, tied_itself, both_ways}
use Rattle.std.specs.FinMap as map
use Rattle.tabled_kept.specs.Table.{table}
use Rattle.tabled_kept.specs.Kept.{keyed, all_entries, Parted}
use Rattle.tabled_kept.proofs.SlotLemmas.{or_else, find-append}

-- what stands in the slot, if there is one, and else the other
abbrev pub at_slot : {S X : Type 0} → Option S → (S → Option X) → Option X → Option X
at_slot (Some s) in_slot other = in_slot s
at_slot None in_slot other = other

pub same_some : {X : Type 0} (x y : X) → Some x ≡ Some y → x ≡ y
same_some x y e = ap (λ o. unwrap_or o x) e

module _ {S : Type 0} {Q : S → S → Ordering} (slots_total : IsTotalOrder Q) (exact_slots : map.IsAntisymmetric Q) {K : Type 0} {R : K → K → Ordering} (o : IsTotalOrder R) (exact : map.IsAntisymmetric R) {slot_of : K → Option S} {key_at : S → K} (back : (key : K) (s : S) → slot_of key ≡ Some s → key_at s ≡ key) where
  -- keys tie where their slots do
  pub ties_by_slot : (q : K) (s t : S) → slot_of q ≡ Some s → slot_of (key_at t) ≡ Some t → eq_by_cmp R q (key_at t) ≡ eq_by_cmp Q s t
  ties_by_slot q s t of_q of_t = both_ways _ _ forth back'
    where
      forth : eq_by_cmp R q (key_at t) ≡ true → eq_by_cmp Q s t ≡ true
      forth tied =
          let same : s ≡ t = same_some s t (sym of_q ∙ ap slot_of (exact q (key_at t) ((Equal-is (R q (key_at t))).0 tied)) ∙ of_t) in
          ap (eq_by_cmp Q s) (sym same) ∙ ap is_eq (tied_itself slots_total s)

      back' : eq_by_cmp Q s t ≡ true → eq_by_cmp R q (key_at t) ≡ true
      back' tied =
          let same : s ≡ t = exact_slots s t ((Equal-is (Q s t)).0 tied) in
          ap (eq_by_cmp R q) (ap key_at (sym same) ∙ back q s of_q) ∙ ap is_eq (tied_itself o q)

  -- and never where one has a slot and the other has none
  pub never_ties : (q k : K) (s : S) → slot_of q ≡ None → slot_of k ≡ Some s → eq_by_cmp R q k ≡ false
  never_ties q k s of_q of_k = by_test (eq_by_cmp R q k) refl
    where
      by_test : (b : Bool) → eq_by_cmp R q k ≡ b → b ≡ false
      by_test true tied = absurd (let e = sym of_q ∙ ap slot_of (exact q k ((Equal-is (R q k)).0 tied)) ∙ of_k in cc)
      by_test false apart = refl

  module _ {V : Type 0} where
    abbrev Placed : List (S × V) → Type 0
    Placed es = (s : S) → is_some (map.find Q s es) ≡ true → slot_of (key_at s) ≡ Some s

    first_placed : (e : S × V) (es : List (S × V)) → Placed (e ∷ es) → slot_of (key_at e.0) ≡ Some e.0
    first_placed e es placed = placed e.0 (ap (λ r. is_some (cond (is_eq r) (Some e.1) (map.find Q e.0 es))) (tied_itself slots_total e.0))

    others_placed : (e : S × V) (es : List (S × V)) → Placed (e ∷ es) → Placed es
    others_placed e es placed s h = placed s (by_test (eq_by_cmp Q s e.0))
      where
        by_test : (b : Bool) → is_some (cond b (Some e.1) (map.find Q s es)) ≡ true
        by_test true = refl
        by_test false = h

    found_in_slot : (q : K) (s : S) (es : List (S × V)) → slot_of q ≡ Some s → Placed es → map.find R q (keyed key_at es) ≡ map.find Q s es
    found_in_slot q s [] of_q placed = refl
    found_in_slot q s (e ∷ es) of_q placed =
        λ i. cond (ties_by_slot q s e.0 of_q (first_placed e es placed) i) (Some e.1) (found_in_slot q s es of_q (others_placed e es placed) i)

    found_nowhere : (q : K) (es : List (S × V)) → slot_of q ≡ None → Placed es → map.find R q (keyed key_at es) ≡ None
    found_nowhere q [] of_q placed = refl
    found_nowhere q (e ∷ es) of_q placed =
        λ i. cond (never_ties q (key_at e.0) e.0 of_q (first_placed e es placed) i) (Some e.1) (found_nowhere q es of_q (others_placed e es placed) i)

  module _ {V : Type 0} (dense : map.FinMap Q V) (others : List (K × V)) (parted : Parted R slot_of key_at dense others) where
    -- the key alone says where its value is
    pub get-all_entries : (q : K) → map.get (table R (all_entries key_at dense others)) q ≡ at_slot (slot_of q) (map.get dense) (map.get (table R others) q)
    get-all_entries q =
        map.get-from_entries o (all_entries key_at dense others) q ∙ find-append R q (keyed key_at (map.entries dense)) others
        ∙ ap (or_else (map.find R q (keyed key_at (map.entries dense)))) (sym (map.get-from_entries o others q)) ∙ by_slot (slot_of q) refl
      where
        placed : (s : S) → is_some (map.find Q s (map.entries dense)) ≡ true → slot_of (key_at s) ≡ Some s
        placed s h = parted.in_place s (ap is_some (map.get-entries dense s) ∙ h)

        nothing_else : (x : Option V) → or_else x None ≡ x
        nothing_else None = refl
        nothing_else (Some x) = refl

        by_slot : (at : Option S) → slot_of q ≡ at → or_else (map.find R q (keyed key_at (map.entries dense))) (map.get (table R others) q) ≡ at_slot at (map.get dense) (map.get (table R others) q)
        by_slot None of_q = ap (λ x. or_else x (map.get (table R others) q)) (found_nowhere q (map.entries dense) of_q placed)
        by_slot (Some s) of_q =
            (λ i. or_else (found_in_slot q s (map.entries dense) of_q placed i) (parted.apart q (ap is_some of_q) i))
            ∙ nothing_else (map.find Q s (map.entries dense)) ∙ sym (map.get-entries dense s)

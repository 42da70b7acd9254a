-- Slots with small numbers are few.
use Rattle.std.proofs.Common.{◌≡◌, ℕ, ◌+◌, ◌-◌, ◌*◌, ◌<◌, ◌≤◌, ◌^◌, Bool, true, false, cond, ◌&&◌, Option, Some, is_some, IsSome, List, [], ◌∷◌, length, refl, sym, ap, ◌∙◌, arith, Ordering, Less, Equal, Greater}
use Rattle.std.proofs.lemmas.List.{length-append, length-map}
use Rattle.std.specs.Prelude.{T, ⊤}
use Rattle.std.specs.Ordering.{nat_cmp, is_eq, is_lt, eq_by_cmp, ordering_then}
use Rattle.std.specs.Cmp.{IsTotalOrder, ranked, tied_itself}
use Rattle.std.specs.FinMap as map
use Rattle.std.specs.FinMap.Entries.{below_all, is_sorted}
use Rattle.tabled_keys.specs.declared.key.Slot.{Slot}
use Rattle.tabled_kept.specs.Slots.{slot_cmp, slots_total}
use Rattle.tabled_kept.specs.Table.{table}
use Rattle.tabled_kept.specs.Kept.{keyed, all_entries, Parted}
use Rattle.tabled_kept.proofs.Tables.{len-table}

-- the place of a slot among all that are so small
abbrev code : Slot → ℕ
code s = 2 ^ 32 * s.row + s.col

abbrev Narrow : Slot → Type 0
Narrow s = (s.row < 2 ^ 30) × (s.col < 2 ^ 32)

rising : (s t : Slot) → Narrow s → Narrow t → slot_cmp s t ≡ Less → code s < code t
rising s t small small' = by_rows (nat_cmp s.row t.row) refl
  where
    by_rows : (r : Ordering) → nat_cmp s.row t.row ≡ r → ordering_then r (nat_cmp s.col t.col) ≡ Less → code s < code t
    by_rows Less is h = omega (arith, ranked s.row t.row Less (sym is), small.1)
    by_rows Equal is h = omega (arith, ranked s.row t.row Equal (sym is), ranked s.col t.col Less (sym h))
    by_rows Greater is h = absurd cc

module _ {V : Type 0} where
  -- each slot is small, and comes at the given place or later
  abbrev AllFrom : ℕ → List (Slot × V) → Type 0
  AllFrom least [] = ⊤
  AllFrom least (e ∷ es) = Narrow e.0 × (least ≤ code e.0) × AllFrom least es

  later : (s : Slot) (least : ℕ) (es : List (Slot × V)) → Narrow s → T (below_all slot_cmp s es) → AllFrom least es → AllFrom (code s + 1) es
  later s least [] small below all = tt
  later s least (e ∷ es) small below all =
      let parts = split (is_lt (slot_cmp s e.0)) (below_all slot_cmp s es) below in
      (all.0, omega (arith, rising s e.0 small all.0 (less (slot_cmp s e.0) parts.0)), later s least es small parts.1 all.2)
    where
      split : (a b : Bool) → T (a && b) → T a × T b
      split true b h = (tt, h)
      split false b h = absurd h

      less : (r : Ordering) → T (is_lt r) → r ≡ Less
      less Less h = refl
      less Equal h = absurd h
      less Greater h = absurd h

  few_left : (least : ℕ) (es : List (Slot × V)) → T (is_sorted slot_cmp es) → AllFrom least es → length es ≤ 2 ^ 62 - least
  few_left least [] sorted all = omega arith
  few_left least (e ∷ es) sorted all =
      let parts = split (below_all slot_cmp e.0 es) (is_sorted slot_cmp es) sorted in
      omega (arith, few_left (code e.0 + 1) es parts.1 (later e.0 least es all.0 parts.0 all.2), all.0.0, all.0.1, all.1)
    where
      split : (a b : Bool) → T (a && b) → T a × T b
      split true b h = (tt, h)
      split false b h = absurd h

  all_small : (es : List (Slot × V)) → ((s : Slot) → is_some (map.find slot_cmp s es) ≡ true → Narrow s) → AllFrom 0 es
  all_small [] h = tt
  all_small (e ∷ es) h = (
    h e.0 (ap (λ r. is_some (cond (is_eq r) (Some e.1) (map.find slot_cmp e.0 es))) (tied_itself slots_total e.0)),
    omega arith,
    all_small es (λ s some. h s (either (eq_by_cmp slot_cmp s e.0) (map.find slot_cmp s es) some)),
  )
    where
      either : (b : Bool) (x : Option V) → is_some x ≡ true → is_some (cond b (Some e.1) x) ≡ true
      either true x some = refl
      either false x some = some

  few_slots : (m : map.FinMap slot_cmp V) → ((s : Slot) → IsSome (map.get m s) → Narrow s) → length (map.entries m) ≤ 2 ^ 62
  few_slots m small = few_left 0 (map.entries m) (map.entries_sorted m) (all_small (map.entries m) (λ s some. small s (ap is_some (map.get-entries m s) ∙ some)))

abbrev under : {K V : Type 0} → (Slot → K) → Slot × V → K × V
under key_at value = (key_at value.0, value.1)

-- so a kept map is no larger than what fits beside one
pub few_kept : {K V : Type 0} {R : K → K → Ordering} {slot_of : K → Option Slot} {key_at : Slot → K} → IsTotalOrder R → map.IsAntisymmetric R → ((key : K) (s : Slot) → slot_of key ≡ Some s → (s.row < 2 ^ 30) × (s.col < 2 ^ 32)) → (dense : map.FinMap slot_cmp V) (others : List (K × V)) → Parted R slot_of key_at dense others → length others < 2 ^ 63 → map.len (table R (all_entries key_at dense others)) < 2 ^ 64
few_kept {R = R} {key_at = key_at} o exact narrow dense others parted few =
    let slots = few_slots dense (λ s some. narrow (key_at s) s (parted.in_place s some)) in
    let all = len-table o exact (all_entries key_at dense others) in
    let parts = length-append (keyed key_at (map.entries dense)) others in
    let keys : length (keyed key_at (map.entries dense)) ≡ length (map.entries dense) = length-map (map.entries dense) (under key_at) in
    omega (arith, slots, all, parts, keys, few)

-- Events in slots: what a push, a hole and closing up leave, and where events stand.
use Rattle.std.proofs.Common.{◌≡◌, ℕ, zero, suc, pred, Bool, true, false, cond, not, ◌||◌, Option, Some, None, List, [], ◌∷◌, ◌++◌, length, set, filter, slice_get, is_some, option_map, option_and_then, refl, sym, ap, ◌∙◌, arith, length-set}
use Rattle.std.specs.List.{list_any, last_or}
use Rattle.std.proofs.lemmas.List.Elements.{filter_map-append}
use Rattle.std.proofs.lemmas.List.Folds.{list_any-append}
use Rattle.std.proofs.lemmas.Option.{same_Some}
use Rattle.tabled_settings.specs.Slots.{standing, behind, passes, place, emptied, event_at, later_of, IsOnce}

-- ---- one slot further on

behind_further : (p : Option ℕ) (here : Bool) (n : ℕ) → behind p here ≡ Some (suc n) → p ≡ Some n
behind_further (Some at) here n h = ap (option_map pred) h
behind_further None true n h = let no : 0 ≡ suc n = same_Some _ _ h in absurd (omega arith)
behind_further None false n h = absurd cc

behind_here : (p : Option ℕ) (here : Bool) → behind p here ≡ Some 0 → (p ≡ None) × (here ≡ true)
behind_here (Some at) here h = let no : suc at ≡ 0 = same_Some _ _ h in absurd (omega arith)
behind_here None true h = (refl, refl)
behind_here None false h = absurd cc

pub is_behind : (p : Option ℕ) (here : Bool) → is_some (behind p here) ≡ (here || is_some p)
is_behind (Some _) true = refl
is_behind (Some _) false = refl
is_behind None true = refl
is_behind None false = refl

none_there : (p : Option ℕ) → is_some p ≡ false → p ≡ None
none_there None h = refl
none_there (Some _) h = absurd cc

behind_pushed : (passed : Bool) (n : ℕ) (p : Option ℕ) (here : Bool) → behind (cond passed (Some n) p) here ≡ cond passed (Some (suc n)) (behind p here)
behind_pushed true n p here = refl
behind_pushed false n p here = refl

-- of two tests the later place is that of their `or`
later_behind : (p q : Option ℕ) (a b : Bool) → later_of (behind p a) (behind q b) ≡ behind (later_of p q) (a || b)
later_behind None None true true = refl
later_behind None (Some j) true b = ap Some (omega arith)
later_behind (Some i) None a true = ap Some (omega arith)
later_behind (Some i) (Some j) a b = ap Some (omega arith)
later_behind p q a b = refl

pub place_or : {K V : Type 0} (p q : K → Bool) (slots : List (Option (K × V))) → later_of (place p slots) (place q slots) ≡ place (λ k. p k || q k) slots
place_or p q [] = refl
place_or p q (None ∷ slots) = later_behind (place p slots) (place q slots) false false ∙ ap (λ o. behind o false) (place_or p q slots)
place_or p q (Some event ∷ slots) = later_behind (place p slots) (place q slots) (p event.0) (q event.0) ∙ ap (λ o. behind o (p event.0 || q event.0)) (place_or p q slots)

module _ {K V : Type 0} (test : K → Bool) where
  -- an event that is pushed stands after all others
  pub place-push : (slots : List (Option (K × V))) (event : K × V) → place test (slots ++ Some event ∷ []) ≡ cond (test event.0) (Some (length slots)) (place test slots)
  place-push [] event = elim (test event.0) as (λ b. behind None b ≡ cond b (Some 0) None) [ true ↦ refl | false ↦ refl ]
  place-push (slot ∷ slots) event = ap (λ p. behind p (passes test slot)) (place-push slots event) ∙ behind_pushed (test event.0) (length slots) (place test slots) (passes test slot)

  pub place-push_hole : (slots : List (Option (K × V))) → place test (slots ++ None ∷ []) ≡ place test slots
  place-push_hole [] = refl
  place-push_hole (slot ∷ slots) = ap (λ p. behind p (passes test slot)) (place-push_hole slots)

  -- an event stands somewhere exactly where there is one
  pub is_placed : (slots : List (Option (K × V))) → is_some (place test slots) ≡ list_any (λ event. test event.0) (standing slots)
  is_placed [] = refl
  is_placed (None ∷ slots) = is_behind (place test slots) false ∙ is_placed slots
  is_placed (Some event ∷ slots) = is_behind (place test slots) (test event.0) ∙ ap (λ b. test event.0 || b) (is_placed slots)

  pub place-none : (slots : List (Option (K × V))) → list_any (λ event. test event.0) (standing slots) ≡ false → place test slots ≡ None
  place-none slots h = none_there (place test slots) (is_placed slots ∙ h)

  -- at its place an event stands that passes
  pub at_its_place : (slots : List (Option (K × V))) (at : ℕ) → place test slots ≡ Some at → passes test (event_at slots (Some at)) ≡ true
  at_its_place [] at h = absurd cc
  at_its_place (slot ∷ slots) zero h = (behind_here (place test slots) (passes test slot) h).1
  at_its_place (slot ∷ slots) (suc at) h = at_its_place slots at (behind_further (place test slots) (passes test slot) at h)

  any-none : (slots : List (Option (K × V))) → place test slots ≡ None → list_any (λ event. test event.0) (standing slots) ≡ false
  any-none slots h = sym (is_placed slots) ∙ ap is_some h

  -- what stands in a slot, if there is one
  abbrev pub at_place : Option (K × V) → List (Option (K × V)) → Option ℕ → Option (K × V)
  at_place before slots None = before
  at_place before slots (Some at) = option_and_then (λ slot. slot) (slice_get slots at)

  past_hole : (before : Option (K × V)) (slots : List (Option (K × V))) (p : Option ℕ) → at_place before slots p ≡ at_place before (None ∷ slots) (behind p false)
  past_hole before slots None = refl
  past_hole before slots (Some at) = refl

  past_event : (before : Option (K × V)) (event : K × V) (slots : List (Option (K × V))) (b : Bool) (p : Option ℕ) (passed : List (K × V))
      → last_or before passed ≡ at_place before slots p → last_or (Some event) passed ≡ at_place (Some event) slots p
      → last_or before (cond b (event ∷ passed) passed) ≡ at_place before (Some event ∷ slots) (behind p b)
  past_event before event slots true None passed h k = k
  past_event before event slots true (Some at) passed h k = k
  past_event before event slots false None passed h k = h
  past_event before event slots false (Some at) passed h k = h

  -- the last event that passes stands at their place
  pub last_standing : (before : Option (K × V)) (slots : List (Option (K × V))) → last_or before (filter (λ event. test event.0) (standing slots)) ≡ at_place before slots (place test slots)
  last_standing before [] = refl
  last_standing before (None ∷ slots) = last_standing before slots ∙ past_hole before slots (place test slots)
  last_standing before (Some event ∷ slots) = past_event before event slots (test event.0) (place test slots) (filter (λ e. test e.0) (standing slots)) (last_standing before slots) (last_standing (Some event) slots)

  -- without those that pass all is left where none passes
  pub filter_all : (events : List (K × V)) → list_any (λ event. test event.0) events ≡ false → filter (λ event. not (test event.0)) events ≡ events
  filter_all [] h = refl
  filter_all (event ∷ events) h = one_more (test event.0) (filter_all events) h
    where
      one_more : (b : Bool) → (list_any (λ e. test e.0) events ≡ false → filter (λ e. not (test e.0)) events ≡ events) → (b || list_any (λ e. test e.0) events) ≡ false
          → cond (not b) (event ∷ filter (λ e. not (test e.0)) events) (filter (λ e. not (test e.0)) events) ≡ event ∷ events
      one_more true again h = absurd cc
      one_more false again h = ap (λ es. event ∷ es) (again h)

  pub none_left : (events : List (K × V)) → list_any (λ event. test event.0) (filter (λ event. not (test event.0)) events) ≡ false
  none_left [] = refl
  none_left (event ∷ events) = one_more (test event.0) refl (none_left events)
    where
      one_more : (b : Bool) → test event.0 ≡ b → list_any (λ e. test e.0) (filter (λ e. not (test e.0)) events) ≡ false
          → list_any (λ e. test e.0) (cond (not b) (event ∷ filter (λ e. not (test e.0)) events) (filter (λ e. not (test e.0)) events)) ≡ false
      one_more true is again = again
      one_more false is again = ap (λ b. b || list_any (λ e. test e.0) (filter (λ e. not (test e.0)) events)) is ∙ again

  pub none_filtered : (keep : K × V → Bool) (events : List (K × V)) → list_any (λ event. test event.0) events ≡ false → list_any (λ event. test event.0) (filter keep events) ≡ false
  none_filtered keep [] h = refl
  none_filtered keep (event ∷ events) h = one_more (keep event) (test event.0) refl (none_filtered keep events) h
    where
      one_more : (kept b : Bool) → test event.0 ≡ b → (list_any (λ e. test e.0) events ≡ false → list_any (λ e. test e.0) (filter keep events) ≡ false) → (b || list_any (λ e. test e.0) events) ≡ false
          → list_any (λ e. test e.0) (cond kept (event ∷ filter keep events) (filter keep events)) ≡ false
      one_more kept true is again h = absurd cc
      one_more true false is again h = ap (λ b. b || list_any (λ e. test e.0) (filter keep events)) is ∙ again h
      one_more false false is again h = again h

-- ---- closing up

pub standing-kept : {A : Type 0} (slots : List (Option A)) → standing (filter is_some slots) ≡ standing slots
standing-kept [] = refl
standing-kept (None ∷ slots) = standing-kept slots
standing-kept (Some event ∷ slots) = ap (λ es. event ∷ es) (standing-kept slots)

pub placed-kept : {K V : Type 0} (test : K → Bool) (slots : List (Option (K × V))) → is_some (place test (filter is_some slots)) ≡ is_some (place test slots)
placed-kept test slots = is_placed test (filter is_some slots) ∙ ap (list_any (λ event. test event.0)) (standing-kept slots) ∙ sym (is_placed test slots)

pub standing-push : {A : Type 0} (slots : List (Option A)) (event : A) → standing (slots ++ Some event ∷ []) ≡ standing slots ++ event ∷ []
standing-push slots event = filter_map-append (λ slot. slot) slots (Some event ∷ [])

pub standing-push_hole : {A : Type 0} (slots : List (Option A)) → standing (slots ++ None ∷ []) ≡ standing slots
standing-push_hole [] = refl
standing-push_hole (None ∷ slots) = standing-push_hole slots
standing-push_hole (Some event ∷ slots) = ap (λ es. event ∷ es) (standing-push_hole slots)

pub length-emptied : {A : Type 0} (at : Option ℕ) (slots : List (Option A)) → length (emptied at slots) ≡ length slots
length-emptied None slots = refl
length-emptied (Some at) slots = length-set slots at None

-- ---- keys that are told apart

-- a test of keys that tells which are equal
pub record Tells {K : Type 0} (same : K → K → Bool) : Type 0 where
  pub equal : (a b : K) → same a b ≡ true → a ≡ b
  pub itself : (a : K) → same a a ≡ true

pub neither : (a b : Bool) → (a || b) ≡ false → (a ≡ false) × (b ≡ false)
neither true b h = absurd cc
neither false b h = (refl, h)

module _ {K : Type 0} {same : K → K → Bool} (t : Tells same) where
  same_back : (a b : K) → same a b ≡ true → same b a ≡ true
  same_back a b h = ap (λ k. same k a) (sym (t.equal a b h)) ∙ t.itself a

  pub apart : (a b : K) → same a b ≡ false → same b a ≡ false
  apart a b h = by_answer (same b a) refl
    where
      by_answer : (c : Bool) → same b a ≡ c → c ≡ false
      by_answer true k = absurd (let yes : same a b ≡ true = same_back b a k in cc)
      by_answer false k = refl

  hole_behind : (x y : K) (here : Bool) (p : Option ℕ) → (same x y ≡ true → here ≡ false) → behind (cond (same x y) None p) here ≡ cond (same x y) None (behind p here)
  hole_behind x y here p not_here = by_answer (same x y) not_here
    where
      by_answer : (c : Bool) → (c ≡ true → here ≡ false) → behind (cond c None p) here ≡ cond c None (behind p here)
      by_answer true k = ap (behind None) (k refl)
      by_answer false k = refl

module _ {K V : Type 0} {same : K → K → Bool} (t : Tells same) where
  -- an entity that has an event in front has none after it
  first_and_last : (x : K) (event : K × V) (slots : List (Option (K × V))) (at : ℕ) → list_any (λ other. same event.0 other.0) (standing slots) ≡ false → place (same x) slots ≡ Some at → same x event.0 ≡ false
  first_and_last x event slots at once h = by_answer (same x event.0) refl
    where
      by_answer : (c : Bool) → same x event.0 ≡ c → c ≡ false
      by_answer true k = absurd (let none : place (same x) slots ≡ None = ap (λ e. place (same e) slots) (t.equal x event.0 k) ∙ place-none (same event.0) slots once in cc)
      by_answer false k = refl

  -- ---- an event that is found

  -- where an event of its key stands, it is the last one
  last_there : (x : K) (slots : List (Option (K × V))) (at : ℕ) → IsOnce same (standing slots) → passes (same x) (event_at slots (Some at)) ≡ true → place (same x) slots ≡ Some at
  last_there x [] at once h = absurd cc
  last_there x (None ∷ slots) zero once h = absurd cc
  last_there x (Some event ∷ slots) zero once h =
      let none : place (same x) slots ≡ None = ap (λ e. place (same e) slots) (t.equal x event.0 h) ∙ place-none (same event.0) slots once.0 in
      λ i. behind (none i) (h i)
  last_there x (None ∷ slots) (suc at) once h = ap (λ p. behind p false) (last_there x slots at once h)
  last_there x (Some event ∷ slots) (suc at) once h = ap (λ p. behind p (same x event.0)) (last_there x slots at once.1 h)

  pub place-found : (x : K) (slots : List (Option (K × V))) (at : Option ℕ) → IsOnce same (standing slots) → passes (same x) (event_at slots at) ≡ true → place (same x) slots ≡ at
  place-found x slots None once h = absurd cc
  place-found x slots (Some at) once h = last_there x slots at once h

  -- ---- a hole where an event stood

  hole_here : (x y : K) (event : K × V) (slots : List (Option (K × V))) → place (same x) slots ≡ None → same x event.0 ≡ true
      → behind (place (same y) slots) false ≡ cond (same x y) None (behind (place (same y) slots) (same y event.0))
  hole_here x y event slots none is = by_answer (same x y) refl
    where
      by_answer : (c : Bool) → same x y ≡ c → behind (place (same y) slots) false ≡ cond c None (behind (place (same y) slots) (same y event.0))
      by_answer true k = ap (λ p. behind p false) (ap (λ e. place (same e) slots) (sym (t.equal x y k)) ∙ none)
      by_answer false k = ap (behind (place (same y) slots)) (sym (apart t event.0 y (ap (λ e. same e y) (sym (t.equal x event.0 is)) ∙ k)))

  pub place-hole : (x y : K) (slots : List (Option (K × V))) (at : ℕ) → IsOnce same (standing slots) → place (same x) slots ≡ Some at → place (same y) (set slots at None) ≡ cond (same x y) None (place (same y) slots)
  place-hole x y [] at once h = absurd cc
  place-hole x y (None ∷ slots) zero once h = absurd (let no : false ≡ true = (behind_here (place (same x) slots) false h).1 in cc)
  place-hole x y (Some event ∷ slots) zero once h = let here = behind_here (place (same x) slots) (same x event.0) h in hole_here x y event slots here.0 here.1
  place-hole x y (None ∷ slots) (suc at) once h =
      ap (λ p. behind p false) (place-hole x y slots at once (behind_further (place (same x) slots) false at h))
      ∙ hole_behind t x y false (place (same y) slots) (λ _. refl)
  place-hole x y (Some event ∷ slots) (suc at) once h =
      ap (λ p. behind p (same y event.0)) (place-hole x y slots at once.1 (behind_further (place (same x) slots) (same x event.0) at h))
      ∙ hole_behind t x y (same y event.0) (place (same y) slots) (λ k.
      ap (λ e. same e event.0) (sym (t.equal x y k)) ∙ first_and_last x event slots at once.0 (behind_further (place (same x) slots) (same x event.0) at h))

  pub standing-hole : (x : K) (slots : List (Option (K × V))) (at : ℕ) → IsOnce same (standing slots) → place (same x) slots ≡ Some at → standing (set slots at None) ≡ filter (λ event. not (same x event.0)) (standing slots)
  standing-hole x [] at once h = absurd cc
  standing-hole x (None ∷ slots) zero once h = absurd (let no : false ≡ true = (behind_here (place (same x) slots) false h).1 in cc)
  standing-hole x (Some event ∷ slots) zero once h =
      let here = behind_here (place (same x) slots) (same x event.0) h in
      sym (ap (λ b. cond (not b) (event ∷ filter (λ e. not (same x e.0)) (standing slots)) (filter (λ e. not (same x e.0)) (standing slots))) here.1
      ∙ filter_all (same x) (standing slots) (any-none (same x) slots here.0))
  standing-hole x (None ∷ slots) (suc at) once h = standing-hole x slots at once (behind_further (place (same x) slots) false at h)
  standing-hole x (Some event ∷ slots) (suc at) once h =
      let further = behind_further (place (same x) slots) (same x event.0) at h in
      ap (λ es. event ∷ es) (standing-hole x slots at once.1 further)
      ∙ sym (ap (λ b. cond (not b) (event ∷ filter (λ e. not (same x e.0)) (standing slots)) (filter (λ e. not (same x e.0)) (standing slots))) (first_and_last x event slots at once.0 further))

  -- the same where there may be none
  pub place-emptied : (x y : K) (slots : List (Option (K × V))) → IsOnce same (standing slots) → place (same y) (emptied (place (same x) slots) slots) ≡ cond (same x y) None (place (same y) slots)
  place-emptied x y slots once = by_place (place (same x) slots) refl
    where
      nowhere : place (same x) slots ≡ None → (c : Bool) → same x y ≡ c → place (same y) slots ≡ cond c None (place (same y) slots)
      nowhere h true k = ap (λ e. place (same e) slots) (sym (t.equal x y k)) ∙ h
      nowhere h false k = refl

      by_place : (p : Option ℕ) → place (same x) slots ≡ p → place (same y) (emptied p slots) ≡ cond (same x y) None (place (same y) slots)
      by_place None h = nowhere h (same x y) refl
      by_place (Some at) h = place-hole x y slots at once h

  pub standing-emptied : (x : K) (slots : List (Option (K × V))) → IsOnce same (standing slots) → standing (emptied (place (same x) slots) slots) ≡ filter (λ event. not (same x event.0)) (standing slots)
  standing-emptied x slots once = by_place (place (same x) slots) refl
    where
      by_place : (p : Option ℕ) → place (same x) slots ≡ p → standing (emptied p slots) ≡ filter (λ event. not (same x event.0)) (standing slots)
      by_place None h = sym (filter_all (same x) (standing slots) (any-none (same x) slots h))
      by_place (Some at) h = standing-hole x slots at once h

  -- ---- each key once

  pub IsOnce-filter : (keep : K × V → Bool) (events : List (K × V)) → IsOnce same events → IsOnce same (filter keep events)
  IsOnce-filter keep [] once = tt
  IsOnce-filter keep (event ∷ events) once = one_more (keep event) (IsOnce-filter keep events once.1)
    where
      one_more : (kept : Bool) → IsOnce same (filter keep events) → IsOnce same (cond kept (event ∷ filter keep events) (filter keep events))
      one_more true again = (none_filtered (same event.0) keep events once.0, again)
      one_more false again = again

  pub IsOnce-push : (events : List (K × V)) (event : K × V) → IsOnce same events → list_any (λ other. same event.0 other.0) events ≡ false → IsOnce same (events ++ event ∷ [])
  IsOnce-push [] event once none = (refl, tt)
  IsOnce-push (first ∷ events) event once none = (
    list_any-append (λ other. same first.0 other.0) events (event ∷ [])
        ∙ (λ i. once.0 i || (apart t event.0 first.0 (neither (same event.0 first.0) (list_any (λ other. same event.0 other.0) events) none).0 i || false)),
    IsOnce-push events event once.1 (neither (same event.0 first.0) (list_any (λ other. same event.0 other.0) events) none).1,
  )

  -- an event is in front of all others of a list, or none of them has its key
  pub none_before : (events : List (K × V)) (event : K × V) (rest : List (K × V)) → IsOnce same (events ++ event ∷ rest) → list_any (λ other. same event.0 other.0) events ≡ false
  none_before [] event rest once = refl
  none_before (first ∷ events) event rest once =
      let none : (list_any (λ other. same first.0 other.0) events || (same first.0 event.0 || list_any (λ other. same first.0 other.0) rest)) ≡ false = sym (list_any-append (λ other. same first.0 other.0) events (event ∷ rest)) ∙ once.0 in
      let here : same first.0 event.0 ≡ false = (neither (same first.0 event.0) (list_any (λ other. same first.0 other.0) rest) (neither (list_any (λ other. same first.0 other.0) events) (same first.0 event.0 || list_any (λ other. same first.0 other.0) rest) none).1).0 in
      λ i. apart t first.0 event.0 here i || none_before events event rest once.1 i

-- where all events of the slots are told alike, they stand at the same place
pub place_alike : {K V : Type 0} (skip p q : K → Bool) → ((k : K) → skip k ≡ false → p k ≡ q k) → (slots : List (Option (K × V))) → list_any (λ event. skip event.0) (standing slots) ≡ false → place p slots ≡ place q slots
place_alike skip p q alike [] h = refl
place_alike skip p q alike (None ∷ slots) h = ap (λ o. behind o false) (place_alike skip p q alike slots h)
place_alike skip p q alike (Some event ∷ slots) h =
    let apart = neither (skip event.0) (list_any (λ e. skip e.0) (standing slots)) h in
    λ i. behind (place_alike skip p q alike slots apart.1 i) (alike event.0 apart.0 i)

-- the event at the last place
pub last_at : {K V : Type 0} (test : K → Bool) (slots : List (Option (K × V))) → last_or None (filter (λ event. test event.0) (standing slots)) ≡ event_at slots (place test slots)
last_at test slots = last_standing test None slots ∙ by_place (place test slots)
  where
    by_place : (p : Option ℕ) → at_place test None slots p ≡ event_at slots p
    by_place None = refl
    by_place (Some at) = refl

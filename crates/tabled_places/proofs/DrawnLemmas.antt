-- The test of drawn lines decides the fact.
use Rattle.std.proofs.Common.{◌≡◌, ℕ, Bool, true, false, cond, ◌&&◌, ◌||◌, Option, Some, None, List, [], ◌∷◌, refl, sym, ap, ◌∙◌, IsTrue, is_some, ◌↔◌, leb, ◌⊎◌, inl, inr}
use Rattle.std.specs.List.{list_any}
use Rattle.std.proofs.lemmas.Bool.{leb-true, le-leb, or_right, and_from, and_parts}
use Rattle.std.specs.Cmp.{both_ways}
use Rattle.tabled_places.specs.declared.place.LineOf.{LineOf}
use Rattle.tabled_places.specs.Site.{Site, same_site}
use Rattle.tabled_places.specs.Event.{Written, Event, write, erase, within, covered, replay, Shows}
use Rattle.tabled_places.specs.declared.place.Place.{Place}
use Rattle.tabled_places.specs.Value.{value}
use Rattle.tabled_places.specs.Drawn.{number, draws, Drawn, written, drawn}
use Rattle.tabled_places.proofs.SameSite.{same_site-eq}
use Rattle.tabled_places.proofs.Replay.{replay-nil, replay-cons}

-- an element that passes is found
any_found : {A : Type 0} (p : A → Bool) (xs : List A) → list_any p xs ≡ true → (x : A) × (p x ≡ true)
any_found p [] h = absurd cc
any_found p (x ∷ xs) h =
    elim (p x) as (λ b. p x ≡ b → (b || list_any p xs) ≡ true → (y : _) × (p y ≡ true)) [
      | true ↦ λ e _. (x, e)
      | false ↦ λ _ g. any_found p xs g
    ] refl h

-- where the first event leaves nothing, what is kept is kept by those after it
later_keeps : {A : Type 0} (c b : Bool) (k l : Option A) → (b ≡ false) ⊎ (l ≡ None) → is_some (cond c k (cond b l None)) ≡ true → is_some k ≡ true
later_keeps true b k l h g = g
later_keeps false true k l (inl h) g = absurd cc
later_keeps false true k l (inr h) g = absurd cc
later_keeps false false k l h g = absurd cc

-- what is kept was written
replay_written : {T : Type 0} (es : List (Event T)) (q : Site) → is_some (replay es q) ≡ true → list_any (same_site q) (written es) ≡ true
replay_written [] q h = absurd (let e = sym (ap is_some (replay-nil q)) ∙ h in cc)
replay_written (write p w ∷ es) q h =
    elim (same_site q p) as (λ b. same_site q p ≡ b → (b || list_any (same_site q) (written es)) ≡ true) [
      | true ↦ λ _. refl
      | false ↦ λ e. replay_written es q (later_keeps (covered es q) (same_site q p) (replay es q) (Some w) (inl e) (sym (ap is_some (replay-cons q (write p w) es)) ∙ h))
    ] refl
replay_written (erase region ∷ es) q h =
    replay_written es q (later_keeps (covered es q) (within region q) (replay es q) None (inr refl) (sym (ap is_some (replay-cons q (erase region) es)) ∙ h))

-- a site that is among those listed passes what one of them passes
any_of_site : (p : Site → Bool) (qs : List Site) (q : Site) → list_any (same_site q) qs ≡ true → p q ≡ true → list_any p qs ≡ true
any_of_site p [] q h g = absurd cc
any_of_site p (x ∷ xs) q h g =
    elim (same_site q x) as (λ b. same_site q x ≡ b → (b || list_any (same_site q) xs) ≡ true → (p x || list_any p xs) ≡ true) [
      | true ↦ λ e _. ap (λ b. b || list_any p xs) (ap p (sym (same_site-eq q x e)) ∙ g)
      | false ↦ λ _ rest. or_right (p x) _ (any_of_site p xs q rest g)
    ] refl h

-- a line is drawn by the test exactly where something that is kept draws it
pub drawn-Drawn : {T : Type 0} (es : List (Event T)) (count : ℕ) (line : LineOf) → IsTrue (drawn es count line) ↔ Drawn (replay es) count line
unfolding drawn
drawn-Drawn es count line = (
  λ h.
      let parts = and_parts (leb (number line) count) _ h in
      let found = any_found (λ q. draws count line q && is_some (replay es q)) (written es) parts.1 in
      let halves = and_parts (draws count line found.0) (is_some (replay es found.0)) found.1 in
      record { no_further = leb-true (number line) count parts.0; by = found.0; draws_it = halves.0; is_kept = halves.1 },
  λ d.
      and_from (leb (number line) count) _ (le-leb (number line) count d.no_further)
      (any_of_site (λ q. draws count line q && is_some (replay es q)) (written es) d.by (replay_written es d.by d.is_kept)
      (and_from (draws count line d.by) (is_some (replay es d.by)) d.draws_it d.is_kept)),
)

-- a keeping that shows the events draws the same lines
pub Drawn-shown : {T : Type 0} (es : List (Event T)) (keep : Site → Option (Written T)) (count : ℕ) (line : LineOf) → Shows es keep → Drawn keep count line ↔ Drawn (replay es) count line
unfolding Shows
Drawn-shown es keep count line shows = (
  λ d. record { no_further = d.no_further; by = d.by; draws_it = d.draws_it; is_kept = sym (ap is_some (shows d.by)) ∙ d.is_kept },
  λ d. record { no_further = d.no_further; by = d.by; draws_it = d.draws_it; is_kept = ap is_some (shows d.by) ∙ d.is_kept },
)

-- whether a line is drawn is the test of any list of events that is shown
pub drawn-answer : {T : Type 0} (es : List (Event T)) (keep : Site → Option (Written T)) (count : ℕ) (line : LineOf) (answer : Bool) → Shows es keep → IsTrue answer ↔ Drawn keep count line → answer ≡ drawn es count line
drawn-answer es keep count line answer shows says =
    both_ways answer (drawn es count line)
    (λ yes. (drawn-Drawn es count line).1 ((Drawn-shown es keep count line shows).0 (says.0 yes)))
    (λ yes. says.1 ((Drawn-shown es keep count line shows).1 ((drawn-Drawn es count line).0 yes)))

-- a keeping that shows the events is what they leave, as a function
pub replay-shown : {T : Type 0} (es : List (Event T)) (keep : Site → Option (Written T)) → Shows es keep → keep ≡ replay es
unfolding Shows
replay-shown es keep shows = λ i q. shows q i

-- what places show is read off what is kept alone
pub value-shown : {T : Type 0} (es : List (Event T)) (keep : Site → Option (Written T)) (shape : ℕ × ℕ) (size : ℕ) (place : Place) → Shows es keep → value keep shape size place ≡ value (replay es) shape size place
value-shown es keep shape size place shows = ap (λ k. value k shape size place) (replay-shown es keep shows)

-- a line is drawn by a keeping exactly where the test of events that it shows says so
pub Drawn-drawn : {T : Type 0} (es : List (Event T)) (keep : Site → Option (Written T)) (count : ℕ) (line : LineOf) → Shows es keep → Drawn keep count line ↔ IsTrue (drawn es count line)
Drawn-drawn es keep count line shows = (
  λ d. (drawn-Drawn es count line).1 ((Drawn-shown es keep count line shows).0 d),
  λ t. (Drawn-shown es keep count line shows).1 ((drawn-Drawn es count line).0 t),
)

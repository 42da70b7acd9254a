-- The steps of a plain reading of a list of events.
use Rattle.std.proofs.Common.{◌≡◌, ℕ, Bool, true, false, cond, ◌||◌, ◌&&◌, ◌+◌, ◌<◌, ◌≤◌, Option, None, is_some, List, [], ◌∷◌, ◌++◌, length, get_or, take, drop, refl, sym, ap, ◌∙◌, add-one, drop-cons}
use Rattle.std.specs.List.{list_any}
use Rattle.std.proofs.lemmas.Bool.{le-leb, lt-leb}
use Rattle.std.proofs.lemmas.List.{take_more, drop_all}
use Rattle.tabled_places.specs.declared.place.LineOf.{LineOf}
use Rattle.tabled_places.specs.declared.place.Place.{Place}
use Rattle.tabled_places.specs.declared.site.Site.{Site}
use Rattle.tabled_places.specs.Value.{inside, sites, first_sign, value}
use Rattle.tabled_places.specs.declared.event.Event.TheVariants.{Write as write}
use Rattle.tabled_places.specs.declared.event.Written.{Written}
use Rattle.tabled_places.specs.declared.event.Event.{Event}
use Rattle.tabled_places.specs.Event.{covers, left_by, replay}
use Rattle.tabled_places.specs.Drawn.{number, draws, written, drawn}
use Rattle.tabled_places.proofs.Replay.{replay-append, replay_one}

-- one more event decides where it covers the site
pub replay_last : {T : Type 0} (es : List (Event T)) (e : Event T) (q : Site) → replay (es ++ e ∷ []) q ≡ cond (covers q e) (left_by e) (replay es q)
replay_last es e q =
    replay-append q es (e ∷ []) ∙ ap (λ x. cond (covers q e || false) x (replay es q)) (replay_one q e)
    ∙ by_cases (covers q e) (left_by e) (replay es q)
  where
    by_cases : {A : Type 0} (b : Bool) (x y : Option A) → cond (b || false) (cond b x None) y ≡ cond b x y
    by_cases true x y = refl
    by_cases false x y = refl

replay_more : {T : Type 0} (events : List (Event T)) (i : ℕ) (d : Event T) (q : Site) → i < length events → replay (take (i + 1) events) q ≡ cond (covers q (get_or events i d)) (left_by (get_or events i d)) (replay (take i events) q)
replay_more events i d q h = ap (λ es. replay es q) (take_more events i d h) ∙ replay_last (take i events) (get_or events i d) q

-- the plain reader's step, where the event covers the site and where it does not
pub replay_covered : {T : Type 0} (events : List (Event T)) (i : ℕ) (d : Event T) (q : Site) (new : Option (Written T)) → i < length events → covers q (get_or events i d) ≡ true → new ≡ left_by (get_or events i d) → new ≡ replay (take (i + 1) events) q
replay_covered events i d q new h covered left =
    left ∙ sym (replay_more events i d q h ∙ ap (λ b. cond b (left_by (get_or events i d)) (replay (take i events) q)) covered)

pub replay_passed : {T : Type 0} (events : List (Event T)) (i : ℕ) (d : Event T) (q : Site) (old : Option (Written T)) → i < length events → covers q (get_or events i d) ≡ false → old ≡ replay (take i events) q → old ≡ replay (take (i + 1) events) q
replay_passed events i d q old h uncovered before =
    before ∙ sym (replay_more events i d q h ∙ ap (λ b. cond b (left_by (get_or events i d)) (replay (take i events) q)) uncovered)

-- what is left of a list from a place on
drop_more : {X : Type 0} (xs : List X) (i : ℕ) (d : X) → i < length xs → drop i xs ≡ get_or xs i d ∷ drop (i + 1) xs
drop_more xs i d h = rw add-one (drop-cons xs i d h)

-- whether one of the later events wrote at a site that draws the line and still has something
abbrev pub drawn_at_some : {T : Type 0} → List (Event T) → ℕ → LineOf → List (Event T) → Bool
drawn_at_some es count line later = list_any (λ q. draws count line q && is_some (replay es q)) (written later)

pub drawn_past : {T : Type 0} (es : List (Event T)) (count : ℕ) (line : LineOf) → count < number line → drawn es count line ≡ false
unfolding drawn
drawn_past es count line h = ap (λ b. b && drawn_at_some es count line es) (lt-leb (number line) count h)

pub drawn_upto : {T : Type 0} (es : List (Event T)) (count : ℕ) (line : LineOf) → number line ≤ count → drawn es count line ≡ drawn_at_some es count line es
unfolding drawn
drawn_upto es count line h = ap (λ b. b && drawn_at_some es count line es) (le-leb (number line) count h)

-- a line is drawn where the event at hand wrote at a site that draws it and still has something
pub drawn_found : {T : Type 0} (events : List (Event T)) (i : ℕ) (d : Event T) (count : ℕ) (line : LineOf) (q : Site) (w : Written T) → i < length events → get_or events i d ≡ write q w → number line ≤ count → drawn_at_some events count line events ≡ drawn_at_some events count line (drop i events) → draws count line q ≡ true → is_some (replay events q) ≡ true → drawn events count line ≡ true
drawn_found events i d count line q w h is upto before draws_it keeps_it =
    drawn_upto events count line upto ∙ before
    ∙ ap (drawn_at_some events count line) (drop_more events i d h ∙ ap (λ e. e ∷ drop (i + 1) events) is)
    ∙ ap (λ b. (b && is_some (replay events q)) || drawn_at_some events count line (drop (i + 1) events)) draws_it
    ∙ ap (λ b. b || drawn_at_some events count line (drop (i + 1) events)) keeps_it

-- no line is drawn where no event is left
pub drawn_nowhere : {T : Type 0} (events : List (Event T)) (i : ℕ) (count : ℕ) (line : LineOf) → length events ≤ i → number line ≤ count → drawn_at_some events count line events ≡ drawn_at_some events count line (drop i events) → drawn events count line ≡ false
drawn_nowhere events i count line h upto before =
    drawn_upto events count line upto ∙ before ∙ ap (drawn_at_some events count line) (drop_all i events h)

module _ {T : Type 0} (keep : Site → Option (Written T)) where
  pub value_outside : (shape : ℕ × ℕ) (size : ℕ) (place : Place) → inside shape size place ≡ false → value keep shape size place ≡ None
  unfolding value
  value_outside shape size place h = ap (λ b. cond b (first_sign keep (sites shape size place)) None) h

  value_inside : (shape : ℕ × ℕ) (size : ℕ) (place : Place) → inside shape size place ≡ true → value keep shape size place ≡ first_sign keep (sites shape size place)
  unfolding value
  value_inside shape size place h = ap (λ b. cond b (first_sign keep (sites shape size place)) None) h

  -- the first sign at the sites of a place inside is its value
  pub value_is : (shape : ℕ × ℕ) (size : ℕ) (place at : Place) (qs : List Site) (result : Option T) → inside shape size place ≡ true → place ≡ at → qs ≡ sites shape size at → result ≡ first_sign keep qs → result ≡ value keep shape size place
  value_is shape size place at qs result within is same e =
      e ∙ ap (first_sign keep) (same ∙ ap (sites shape size) (sym is)) ∙ sym (value_inside shape size place within)

-- The writes of borders, cell by cell.
use Rattle.std.proofs.Common.{◌≡◌, ℕ, Bool, true, false, cond, IsTrue, is_some, Option, Some, None, List, [], ◌∷◌, ◌++◌, map, refl, ap, sym, ◌∙◌, Result, Ok, Err, IsOk, OnErr, option_map, append-nil}
use Rattle.std.proofs.lemmas.List.Elements.{filter_map-append}
use Rattle.std.specs.List.{flat_map, filter, cons_option}
use Rattle.tabled_border.specs.declared.border.Border.{Border}
use Rattle.tabled_places.specs.declared.place.Place.{Place}
use Rattle.tabled_places.specs.declared.writes.Target.{Target}
use Rattle.tabled_places.specs.declared.writes.Write.{Write}
use Rattle.tabled_object.specs.declared.position.Position.{Position}
use Rattle.tabled_object.specs.Entities.{is_inside}
use Rattle.tabled_places.specs.Site.{Site}
use Rattle.tabled_places.specs.Event.{Event, Written}
use Rattle.tabled_places.specs.Calls.{border_set, borders_of, given_write, places_set, writes_anew}
use Rattle.tabled_places.specs.Writes.{given_event, writes_made}

-- a cell inside, and then the others
pub borders_inside : {T : Type 0} (rows cols : ℕ) (border : Border T) (pos : Position) (rest : List Position) → is_inside rows cols pos ≡ true → borders_of (rows, cols) border (pos ∷ rest) ≡ border_set pos border ++ borders_of (rows, cols) border rest
unfolding borders_of
borders_inside rows cols border pos rest inside =
    ap (λ b. flat_map (λ p. border_set p border) (cond b (pos ∷ filter (is_inside rows cols) rest) (filter (is_inside rows cols) rest))) inside

-- a cell outside is passed over
pub borders_outside : {T : Type 0} (rows cols : ℕ) (border : Border T) (pos : Position) (rest : List Position) → is_inside rows cols pos ≡ false → borders_of (rows, cols) border (pos ∷ rest) ≡ borders_of (rows, cols) border rest
unfolding borders_of
borders_outside rows cols border pos rest outside =
    ap (λ b. flat_map (λ p. border_set p border) (cond b (pos ∷ filter (is_inside rows cols) rest) (filter (is_inside rows cols) rest))) outside

-- no cell is left
pub no_borders_left : {T : Type 0} (shape : ℕ × ℕ) (border : Border T) (cells : List Position) → cells ≡ [] → borders_of shape border cells ≡ []
unfolding borders_of
no_borders_left shape border cells e = ap (borders_of shape border) e

-- where no cell lies inside, none of those after the first does
pub none_inside_after : (rows cols : ℕ) (pos : Position) (rest cells : List Position) → cells ≡ pos ∷ rest → filter (is_inside rows cols) cells ≡ [] → filter (is_inside rows cols) rest ≡ []
none_inside_after rows cols pos rest cells is none = at (is_inside rows cols pos) (sym (ap (filter (is_inside rows cols)) is) ∙ none)
  where
    at : (b : Bool) → cond b (pos ∷ filter (is_inside rows cols) rest) (filter (is_inside rows cols) rest) ≡ [] → filter (is_inside rows cols) rest ≡ []
    at true h = absurd cc
    at false h = h

no_borders : {T : Type 0} (shape : ℕ × ℕ) (border : Border T) (cells : List Position) → filter (is_inside shape.0 shape.1) cells ≡ [] → borders_of shape border cells ≡ []
unfolding borders_of
no_borders shape border cells none = ap (flat_map (λ p. border_set p border)) none

-- where no cell lies inside nothing is written, so nothing of it is new
pub sure_without_cells : {A E T : Type 0} (shape : ℕ × ℕ) (border : Border T) (cells : List Position) (keep : Site → Option (Written T)) (events : List (Event T)) (result : Result A E) → events ≡ borders_of shape border cells → filter (is_inside shape.0 shape.1) cells ≡ [] → OnErr result (IsTrue (writes_anew keep events)) → IsOk result
sure_without_cells shape border cells keep events (Ok x) are none absent = refl
sure_without_cells shape border cells keep events (Err e) are none absent =
    absurd (let nothing : writes_anew keep events ≡ false = ap (writes_anew keep) (are ∙ no_borders shape border cells none) in cc)

-- lists of writes in a row
pub writes_made-append : {T : Type 0} (ws vs : List (Write T)) → writes_made (ws ++ vs) ≡ writes_made ws ++ writes_made vs
unfolding writes_made
writes_made-append ws vs = filter_map-append (λ entry. given_event entry.target entry.value) ws vs

pub nothing_written : {T : Type 0} (ws : List (Write T)) → ws ≡ [] → writes_made ws ≡ []
unfolding writes_made
nothing_written ws e = ap writes_made e

-- the writes of groups, and of groups of groups
two_groups : {T : Type 0} (a b c d : List (Write T)) → (writes_made a ++ writes_made b) ++ (writes_made c ++ writes_made d) ≡ writes_made ((a ++ b) ++ (c ++ d))
two_groups a b c d = (λ i. sym (writes_made-append a b) i ++ sym (writes_made-append c d) i) ∙ sym (writes_made-append (a ++ b) (c ++ d))

pub eight_made : {T : Type 0} (a b c d e f g h : Write T) → ((writes_made (a ∷ []) ++ writes_made (b ∷ [])) ++ (writes_made (c ∷ []) ++ writes_made (d ∷ []))) ++ ((writes_made (e ∷ []) ++ writes_made (f ∷ [])) ++ (writes_made (g ∷ []) ++ writes_made (h ∷ []))) ≡ writes_made (a ∷ b ∷ c ∷ d ∷ e ∷ f ∷ g ∷ h ∷ [])
eight_made a b c d e f g h =
    (λ i. two_groups (a ∷ []) (b ∷ []) (c ∷ []) (d ∷ []) i ++ two_groups (e ∷ []) (f ∷ []) (g ∷ []) (h ∷ []) i)
    ∙ sym (writes_made-append (a ∷ b ∷ c ∷ d ∷ []) (e ∷ f ∷ g ∷ h ∷ []))

-- a list with a write more; one without a target writes nothing
pub added : {T : Type 0} (all ws : List (Write T)) (entry : Write T) → all ≡ ws ++ entry ∷ [] → writes_made all ≡ writes_made ws ++ writes_made (entry ∷ [])
added all ws entry more = ap writes_made more ∙ writes_made-append ws (entry ∷ [])

pub none_added : {T : Type 0} (ws : List (Write T)) (entry : Write T) → is_some entry.target ≡ false → writes_made ws ≡ writes_made ws ++ writes_made (entry ∷ [])
unfolding writes_made
none_added ws entry h = sym (append-nil (writes_made ws)) ∙ ap (λ es. writes_made ws ++ es) (nothing entry.target entry.value h)
  where
    nothing : {T : Type 0} (target : Option Target) (value : Option T) → is_some target ≡ false → [] ≡ writes_made (record { target = target; value = value } ∷ [])
    nothing None value h = refl
    nothing (Some target) value h = absurd cc

-- a write at the cell level of a place, where there is one
abbrev pub write_at : {T : Type 0} → Option Place × Option T → Write T
write_at (place, value) = record { target = option_map Target.Cell place; value = value }

given_at : {T : Type 0} (w : Option Place × Option T) → given_event (write_at w).target (write_at w).value ≡ given_write w
given_at (Some place, Some value) = refl
given_at (Some place, None) = refl
given_at (None, value) = refl

pub all_at : {T : Type 0} (ws : List (Option Place × Option T)) → writes_made (map write_at ws) ≡ places_set ws
unfolding writes_made places_set
all_at [] = refl
all_at (w ∷ ws) = λ i. cons_option (given_at w i) (all_at ws i)

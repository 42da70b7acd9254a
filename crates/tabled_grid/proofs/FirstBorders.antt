-- Borders written where nothing is kept at the cell level, and taken back by an erasure of that level.
use Rattle.std.proofs.Common.{◌≡◌, ℕ, ◌==◌, Bool, true, false, cond, ◌||◌, Option, Some, None, List, [], ◌∷◌, ◌++◌, refl, ap, sym, ◌∙◌, option_map, zip}
use Rattle.std.specs.FinMap as map
use Rattle.tabled_border.specs.declared.border.Border.{Border}
use Rattle.tabled_object.specs.declared.position.Position.{Position}
use Rattle.tabled_object.specs.Entities.{is_inside}
use Rattle.tabled_object.specs.declared.offset.Offset.{Offset}
use Rattle.tabled_places.specs.declared.place.LineOf.{LineOf}
use Rattle.tabled_places.specs.declared.place.Place.{Place}
use Rattle.tabled_places.specs.CellBorder.{border_places, border_fields}
use Rattle.tabled_places.specs.Keys.{spot_cmp}
use Rattle.tabled_places.specs.declared.site.Spot.{Spot}
use Rattle.tabled_places.specs.declared.site.Site.{Site}
use Rattle.tabled_places.specs.declared.site.Site.TheVariants.{Line as of_line, Cell as at_spot, Offset as at_offset}
use Rattle.tabled_places.specs.Site.{level, same_site}
use Rattle.tabled_places.specs.declared.event.Written.TheVariants.{Sign as sign}
use Rattle.tabled_places.specs.declared.event.Region.TheVariants.{Level as level_sites}
use Rattle.tabled_places.specs.declared.event.Event.TheVariants.{Erase as erase}
use Rattle.tabled_places.specs.Event.{covered, replay, Changes}
use Rattle.tabled_places.specs.State.{State, state_at, HasNoCells}
use Rattle.tabled_places.specs.Calls.{spot_of, border_set, borders_of, places_set}
use Rattle.tabled_places.proofs.CellBorders.{by_erasure}
use Rattle.tabled_places.proofs.EntityBorders.{borders_inside, borders_outside, no_borders_left}
use Rattle.tabled_places.proofs.PuttingBack.{same_state}
use Rattle.tabled_places.proofs.Replay.{Changes-append, Changes-nil}
use Rattle.tabled_grid.proofs.Seen.{as_events}

-- a site of another level is at no edge and no crossing
other_level : (q : Site) (spot : Spot) → (level q == 4) ≡ false → same_site q (at_spot spot) ≡ false
other_level (at_spot s) spot h = absurd cc
other_level q spot h = refl

module _ {T : Type 0} where
  -- a border is written at the cell level alone
  places_uncovered : (ws : List (Option Place × Option T)) (q : Site) → (level q == 4) ≡ false → covered (places_set ws) q ≡ false
  unfolding places_set
  places_uncovered [] q h = refl
  places_uncovered ((Some place, Some value) ∷ ws) q h = λ i. other_level q (spot_of place) h i || places_uncovered ws q h i
  places_uncovered ((Some place, None) ∷ ws) q h = places_uncovered ws q h
  places_uncovered ((None, value) ∷ ws) q h = places_uncovered ws q h

  -- two stores that keep the same at all other levels
  abbrev pub IsSameBesideCells : State T → State T → Type 0
  IsSameBesideCells old new = (q : Site) → (level q == 4) ≡ false → state_at new q ≡ state_at old q

  -- one border more
  pub same_beside_border : (pos : Position) (border : Border T) (old between new : State T) → IsSameBesideCells old between → Changes (border_set pos border) (state_at between) (state_at new) → IsSameBesideCells old new
  unfolding Changes
  same_beside_border pos border old between new same changes q h =
      changes q ∙ ap (λ b. cond b (replay (border_set pos border) q) (state_at between q)) (places_uncovered (zip (border_fields (border_places pos)) (border_fields border)) q h) ∙ same q h

  no_cell : (store : State T) → HasNoCells store → (q : Site) → (level q == 4) ≡ true → state_at store q ≡ None
  no_cell store none (at_spot spot) h = ap (λ cells. option_map sign (map.get cells spot)) none ∙ ap (option_map sign) (map.get-empty spot_cmp spot)
  no_cell store none (of_line (LineOf.Vertical n) p) h = absurd cc
  no_cell store none (at_offset d r c (Offset.Start n)) h = absurd cc
  no_cell store none q h = absurd cc

  -- the cell level erased again
  pub borders_taken_back : (old between new : State T) → HasNoCells old → IsSameBesideCells old between → Changes (erase (level_sites 4) ∷ []) (state_at between) (state_at new) → new ≡ old
  borders_taken_back old between new none same erased =
      same_state new old (λ q. by_erasure (level_sites 4) (state_at between) (state_at new) erased q ∙ at q (level q == 4) refl)
    where
      at : (q : Site) (b : Bool) → (level q == 4) ≡ b → cond b None (state_at between q) ≡ state_at old q
      at q true e = sym (no_cell old none q e)
      at q false e = same q e

  -- the border of a cell inside, and then the others
  pub border_then : (rows cols : ℕ) (border : Border T) (pos : Position) (rest : List Position) (old mid end : State T) → is_inside rows cols pos ≡ true → Changes (border_set pos border) (state_at old) (state_at mid) → Changes (borders_of (rows, cols) border rest) (state_at mid) (state_at end) → Changes (borders_of (rows, cols) border (pos ∷ rest)) (state_at old) (state_at end)
  border_then rows cols border pos rest old mid end inside one others =
      as_events (border_set pos border ++ borders_of (rows, cols) border rest) (borders_of (rows, cols) border (pos ∷ rest)) old end (borders_inside rows cols border pos rest inside)
      (Changes-append (border_set pos border) (borders_of (rows, cols) border rest) (state_at old) (state_at mid) (state_at end) one others)

  -- a cell outside is passed over
  pub outside_then : (rows cols : ℕ) (border : Border T) (pos : Position) (rest : List Position) (old end : State T) → is_inside rows cols pos ≡ false → Changes (borders_of (rows, cols) border rest) (state_at old) (state_at end) → Changes (borders_of (rows, cols) border (pos ∷ rest)) (state_at old) (state_at end)
  outside_then rows cols border pos rest old end outside others =
      as_events (borders_of (rows, cols) border rest) (borders_of (rows, cols) border (pos ∷ rest)) old end (borders_outside rows cols border pos rest outside) others

  -- no cell is left
  pub no_border_then : (shape : ℕ × ℕ) (border : Border T) (cells : List Position) (store : State T) → cells ≡ [] → Changes (borders_of shape border cells) (state_at store) (state_at store)
  no_border_then shape border cells store e =
      as_events [] (borders_of shape border cells) store store (no_borders_left shape border cells e) (Changes-nil (state_at store))

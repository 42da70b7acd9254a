-- The sides and corners of one cell, erased together.
use Rattle.std.proofs.Common.{◌≡◌, cond, Option, Some, None, List, [], ◌∷◌, ◌++◌, ap, sym, ◌∙◌, subst, option_map}
use Rattle.std.proofs.lemmas.List.Elements.{filter_map-append}
use mathlib.Core.Bool.{or-false}
use Rattle.tabled_border.specs.declared.border.Border.{Border}
use Rattle.tabled_places.specs.declared.place.Place.{Place}
use Rattle.tabled_object.specs.declared.position.Position.{Position}
use Rattle.tabled_places.specs.Site.{Site, at_spot}
use Rattle.tabled_places.specs.Event.{Written, Region, one_site, within, erase, replay, Changes}
use Rattle.tabled_places.specs.State.{State, state_at}
use Rattle.tabled_places.specs.Calls.{spot_of, cell_erased, places_erased, border_erased}
use Rattle.tabled_places.specs.CellBorder.{border_places, border_fields}
use Rattle.tabled_places.proofs.Replay.{replay-nil, replay_cleared, Changes-append, Changes-nil}

-- what an erasure leaves at each site
pub by_erasure : {T : Type 0} (region : Region) (old new : Site → Option (Written T)) → Changes (erase region ∷ []) old new → (q : Site) → new q ≡ cond (within region q) None (old q)
unfolding Changes
by_erasure region old new h q =
    h q ∙ ap (λ b. cond b (replay (erase region ∷ []) q) (old q)) (or-false (within region q))
    ∙ ap (λ k. cond (within region q) k (old q)) (replay_cleared region [] q ∙ replay-nil q)

-- two erasures of places are the erasure of all of them
pub erased_then : {T : Type 0} (ps qs : List (Option Place)) (old mid new : State T) → Changes (places_erased ps) (state_at old) (state_at mid) → Changes (places_erased qs) (state_at mid) (state_at new) → Changes (places_erased (ps ++ qs)) (state_at old) (state_at new)
unfolding places_erased
erased_then ps qs old mid new first then =
    subst (λ es. Changes es (state_at old) (state_at new)) (sym (filter_map-append (option_map (λ place. erase (one_site (at_spot (spot_of place))))) ps qs))
    (Changes-append (places_erased ps) (places_erased qs) (state_at old) (state_at mid) (state_at new) first then)

-- a place that is not there
pub nothing_erased : {T : Type 0} (place : Option Place) (state : State T) → place ≡ None → Changes (places_erased (place ∷ [])) (state_at state) (state_at state)
unfolding places_erased
nothing_erased place state e = subst (λ p. Changes (places_erased (p ∷ [])) (state_at state) (state_at state)) (sym e) (Changes-nil (state_at state))

pub cell_erased_there : {T : Type 0} (place : Option Place) (there : Place) (old new : State T) → place ≡ Some there → Changes (cell_erased there) (state_at old) (state_at new) → Changes (places_erased (place ∷ [])) (state_at old) (state_at new)
unfolding places_erased
cell_erased_there place there old new e h = subst (λ p. Changes (places_erased (p ∷ [])) (state_at old) (state_at new)) (sym e) h

-- where all places of a cell's border were cleared
pub erased_at : {T : Type 0} (pos : Position) (places : Border Place) (old new : State T) → places ≡ border_places pos → Changes (places_erased (border_fields places)) (state_at old) (state_at new) → Changes (border_erased pos) (state_at old) (state_at new)
erased_at pos places old new e h = subst (λ p. Changes (places_erased (border_fields p)) (state_at old) (state_at new)) e h

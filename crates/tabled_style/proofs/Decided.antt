-- A configuration to which a style was applied keeps what the style writes, whatever it kept before.
use Rattle.std.proofs.Common.{◌≡◌, ℕ, Bool, true, false, cond, Option, None, List, [], ◌∷◌, ◌++◌, refl, ap, subst, ◌∙◌}
use Rattle.tabled_places.specs.Event as grid
use Rattle.tabled_places.specs.declared.event.Event.TheVariants.{Erase as erase}
use Rattle.tabled_places.specs.declared.event.Region.TheVariants.{All as every_site}
use Rattle.tabled_places.specs.declared.event.Event.{Event}
use Rattle.tabled_places.specs.declared.site.Site.{Site}
use Rattle.tabled_places.specs.State.{state_at, class_record_set}
use Rattle.tabled_places.specs.Value.{value, sign_or, first_sign, inside, sites}
use Rattle.tabled_places.specs.declared.place.Place.{Place}
use Rattle.tabled_places.proofs.Replay.{replay-nil, replay_cleared}
use Rattle.tabled_places.proofs.DrawnLemmas.{value-shown}
use Rattle.tabled_configuration.specs.Configuration.{Configuration, Changes, borders_replaced, horizontal_lines_put, vertical_lines_put}
use Rattle.tabled_configuration.proofs.ConfigurationLemmas.{characters_of-both, colors_of-both}
use Rattle.tabled_style.specs.Shown.{StyleShown}
use Rattle.tabled_style.specs.Deciding.{written_by}

pub characters_shown : (style : StyleShown) (old new : Configuration) → Changes (borders_replaced style.borders style.horizontals style.verticals) old new → grid.Shows (written_by style) (state_at new.characters)
unfolding borders_replaced written_by grid.Shows grid.Changes
characters_shown style old new changes q =
    let es : List (Event ℕ) = horizontal_lines_put style.horizontals ++ vertical_lines_put style.verticals ++ class_record_set style.borders in
    let changed : grid.Changes (erase every_site ∷ es) (state_at old.characters) (state_at new.characters) =
    subst (λ all. grid.Changes all (state_at old.characters) (state_at new.characters)) (characters_of-both (erase every_site ∷ es) (erase every_site ∷ [])) changes.characters_changed in
    changed q ∙ replay_cleared every_site es q

colors_shown : (style : StyleShown) (old new : Configuration) → Changes (borders_replaced style.borders style.horizontals style.verticals) old new → grid.Shows [] (state_at new.colors)
unfolding borders_replaced grid.Shows grid.Changes
colors_shown style old new changes q =
    let es : List (Event ℕ) = horizontal_lines_put style.horizontals ++ vertical_lines_put style.verticals ++ class_record_set style.borders in
    let changed : grid.Changes (erase every_site ∷ []) (state_at old.colors) (state_at new.colors) =
    subst (λ all. grid.Changes all (state_at old.colors) (state_at new.colors)) (colors_of-both (erase every_site ∷ es) (erase every_site ∷ [])) changes.colors_changed in
    changed q ∙ replay_cleared every_site [] q

-- where nothing is kept no place has a value
none_first : {T : Type 0} (qs : List Site) → first_sign (grid.replay {T = T} []) qs ≡ None
none_first [] = refl
none_first {T = T} (q ∷ qs) = ap (λ here. sign_or here (first_sign (grid.replay {T = T} []) qs)) (replay-nil q) ∙ none_first qs

none_either : {A : Type 0} (b : Bool) (x : Option A) → x ≡ None → cond b x None ≡ None
none_either true x is = is
none_either false x is = refl

pub colorless : (style : StyleShown) (old new : Configuration) (shape : ℕ × ℕ) (size : ℕ) (place : Place) → Changes (borders_replaced style.borders style.horizontals style.verticals) old new → value (state_at new.colors) shape size place ≡ None
unfolding value
colorless style old new shape size place changes =
    value-shown [] (state_at new.colors) shape size place (colors_shown style old new changes)
    ∙ none_either (inside shape size place) (first_sign (grid.replay []) (sites shape size place)) (none_first (sites shape size place))

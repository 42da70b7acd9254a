-- All borders replaced at once.
use Rattle.std.proofs.Common.{◌≡◌, ℕ, suc, ◌+◌, ◌<◌, arith, List, [], ◌∷◌, ◌++◌, length, take, slice_index_or, refl, sym, ap, subst, ◌∙◌, flat_map, append-nil}
use Rattle.std.proofs.Math.Seq.{take-suc}
use Rattle.std.proofs.lemmas.Grind.{flat_map-append}
use Rattle.tabled_places.specs.declared.borders.Borders.{Borders}
use Rattle.tabled_places.specs.declared.lines.HorizontalLine.{HorizontalLine}
use Rattle.tabled_places.specs.declared.lines.VerticalLine.{VerticalLine}
use Rattle.tabled_places.specs.Calls.{line_set_horizontal, line_set_vertical}
use Rattle.tabled_places.specs.Event as grid
use Rattle.tabled_places.specs.declared.event.Event.TheVariants.{Erase as erase}
use Rattle.tabled_places.specs.declared.event.Region.TheVariants.{All as every_site}
use Rattle.tabled_places.specs.declared.event.Event.{Event}
use Rattle.tabled_places.specs.State.{State, state_at, class_record_set}
use Rattle.tabled_border.specs.Texts.{Texts}
use Rattle.tabled_places.proofs.Replay.{replay_cleared, Shows_after, Changes-append, Changes-nil}
use Rattle.tabled_configuration.specs.Configuration.{Configuration, Changes, borders_replaced, horizontal_lines_put, vertical_lines_put}
use Rattle.tabled_layout.specs.declared.table_settings.TableSettings.{TableSettings}
use Rattle.tabled_configuration.proofs.ConfigurationLemmas.{Changes_by_both}

behind : (i : ℕ) → i + 1 ≡ suc i
behind i = omega arith

-- one more of a list
one_put : {X : Type 0} (put : X → List (Event ℕ)) (lines : List X) (i : ℕ) (d : X) (old between new : State ℕ) → i < length lines → grid.Changes (flat_map put (take i lines)) (state_at old) (state_at between) → grid.Changes (put (slice_index_or lines i d)) (state_at between) (state_at new) → grid.Changes (flat_map put (take (i + 1) lines)) (state_at old) (state_at new)
one_put put lines i d old between new here before next =
    subst (λ es. grid.Changes es (state_at old) (state_at new)) (sym (ap (λ n. flat_map put (take n lines)) (behind i) ∙ ap (flat_map put) (take-suc lines i d here) ∙ flat_map-append put (take i lines) (slice_index_or lines i d ∷ [])))
    (Changes-append (flat_map put (take i lines)) (put (slice_index_or lines i d) ++ []) (state_at old) (state_at between) (state_at new) before
    (subst (λ es. grid.Changes es (state_at between) (state_at new)) (sym (append-nil (put (slice_index_or lines i d)))) next))

pub horizontal_put : (lines : List (ℕ × HorizontalLine ℕ)) (i : ℕ) (d : ℕ × HorizontalLine ℕ) (old between new : State ℕ) → i < length lines → grid.Changes (horizontal_lines_put (take i lines)) (state_at old) (state_at between) → grid.Changes (line_set_horizontal (slice_index_or lines i d).0 (slice_index_or lines i d).1) (state_at between) (state_at new) → grid.Changes (horizontal_lines_put (take (i + 1) lines)) (state_at old) (state_at new)
unfolding horizontal_lines_put
horizontal_put lines i d old between new here before next = one_put (λ line. line_set_horizontal line.0 line.1) lines i d old between new here before next

pub vertical_put : (lines : List (ℕ × VerticalLine ℕ)) (i : ℕ) (d : ℕ × VerticalLine ℕ) (old between new : State ℕ) → i < length lines → grid.Changes (vertical_lines_put (take i lines)) (state_at old) (state_at between) → grid.Changes (line_set_vertical (slice_index_or lines i d).0 (slice_index_or lines i d).1) (state_at between) (state_at new) → grid.Changes (vertical_lines_put (take (i + 1) lines)) (state_at old) (state_at new)
unfolding vertical_lines_put
vertical_put lines i d old between new here before next = one_put (λ line. line_set_vertical line.0 line.1) lines i d old between new here before next

pub no_horizontal_put : (store : State ℕ) → grid.Changes (horizontal_lines_put []) (state_at store) (state_at store)
unfolding horizontal_lines_put
no_horizontal_put store = Changes-nil (state_at store)

pub no_vertical_put : (store : State ℕ) → grid.Changes (vertical_lines_put []) (state_at store) (state_at store)
unfolding vertical_lines_put
no_vertical_put store = Changes-nil (state_at store)

-- a new store with lines and a class record
pub shows_all : (horizontal vertical class : List (Event ℕ)) (a b c d : State ℕ) → grid.Shows [] (state_at a) → grid.Changes horizontal (state_at a) (state_at b) → grid.Changes vertical (state_at b) (state_at c) → grid.Changes class (state_at c) (state_at d) → grid.Shows (horizontal ++ vertical ++ class) (state_at d)
shows_all horizontal vertical class a b c d new one other last =
    Shows_after [] (horizontal ++ vertical ++ class) (state_at a) (state_at d) (Changes-append (horizontal ++ vertical) class (state_at a) (state_at c) (state_at d) (Changes-append horizontal vertical (state_at a) (state_at b) (state_at c) one other) last) new

-- a store that shows some events has what they leave after every site was cleared, whatever there was before
cleared_first : (es : List (Event ℕ)) (old new : State ℕ) → grid.Shows es (state_at new) → grid.Changes (erase every_site ∷ es) (state_at old) (state_at new)
unfolding grid.Changes grid.Shows
cleared_first es old new shows q = shows q ∙ sym (replay_cleared every_site es q)

pub Changes-borders_replaced : (class : Borders ℕ) (horizontals : List (ℕ × HorizontalLine ℕ)) (verticals : List (ℕ × VerticalLine ℕ)) (before after : State ℕ) (colored emptied : State Texts) (settings : TableSettings) (old : Configuration) → record { characters = before; colors = colored; settings = settings } ≡ old → grid.Shows (horizontal_lines_put horizontals ++ vertical_lines_put verticals ++ class_record_set class) (state_at after) → grid.Changes (erase every_site ∷ []) (state_at colored) (state_at emptied) → Changes (borders_replaced class horizontals verticals) old (record { characters = after; colors = emptied; settings = settings })
unfolding borders_replaced
Changes-borders_replaced class horizontals verticals before after colored emptied settings old is shows drained =
    let es = horizontal_lines_put horizontals ++ vertical_lines_put verticals ++ class_record_set class in
    subst (λ cfg. Changes (borders_replaced class horizontals verticals) cfg (record { characters = after; colors = emptied; settings = settings })) is
    (Changes_by_both (erase every_site ∷ es) (erase every_site ∷ []) (record { characters = before; colors = colored; settings = settings }) (record { characters = after; colors = emptied; settings = settings }) (cleared_first es before after shows) drained refl)

-- What the laws of outlines say.
use Rattle.std.proofs.Common.{◌≡◌, ℕ, Bool, true, false, is_some, Option, Some, None, option_map, List, map, slice_index_or, refl, sym, ap, subst, ◌∙◌}
use Rattle.std.specs.List.{list_any, Contains}
use Rattle.std.proofs.lemmas.List.Folds.{Any-from_list_any}
use Rattle.std.proofs.lemmas.Bool.{and_parts}
use Rattle.tabled_border.specs.declared.border.Border.{Border}
use Rattle.tabled_object.specs.declared.entity.Entity.{Entity}
use Rattle.tabled_object.specs.Listing.{listed}
use Rattle.tabled_object.proofs.Sets.{any_map}
use Rattle.tabled_places.specs.declared.site.Spot.{Spot}
use Rattle.tabled_places.specs.declared.site.Site.{Site}
use Rattle.tabled_places.specs.declared.site.Site.TheVariants.{Default as the_default, Class as of_class, Line as of_line, Cell as at_spot, Offset as at_offset}
use Rattle.tabled_places.specs.Site.{same_spot, same_site}
use Rattle.tabled_places.specs.declared.event.Event.{Event}
use Rattle.tabled_places.specs.declared.event.Written.TheVariants.{Sign as sign}
use Rattle.tabled_places.specs.Event.{covered, replay}
use Rattle.tabled_places.proofs.SameSite.{same_site-eq}
use Rattle.tabled_places.proofs.Replay.{replay_uncovered}
use Rattle.tabled_places.proofs.Leaving.{Leaves, on_spots, covered_is, left_is, covered_written}
use Rattle.tabled_highlight.specs.Outline.{Outlining, across_value, down_value, outline_value, every_spot, outline, IsSpotOf}
use Rattle.tabled_highlight.proofs.Spots.{outline_leaves}
use Rattle.tabled_highlight.proofs.Made.{listed_inside}

nothing_kept : {A B : Type 0} (f : A → B) (o : Option A) → is_some o ≡ false → None ≡ option_map f o
nothing_kept f None h = refl
nothing_kept f (Some x) h = absurd cc

-- what a list leaves that agrees with a function is what the function has
kept_is : {T : Type 0} (value : Site → Option T) (es : List (Event T)) (q : Site) (b : Bool) → Leaves value es → covered es q ≡ b → replay es q ≡ option_map sign (value q)
kept_is value es q true h e = left_is value es q h.all_of e
kept_is value es q false h e = replay_uncovered q es e ∙ nothing_kept sign (value q) (sym (covered_is value es q h) ∙ e)

module _ {T : Type 0} (entities : List Entity) (rows cols : ℕ) (given : Outlining T) where
  leaves : Leaves (on_spots (outline_value (listed entities rows cols) given)) (outline (rows, cols) (listed entities rows cols) given)
  leaves = outline_leaves rows cols (listed entities rows cols) given (listed_inside entities rows cols)

  pub table_covered : (spot : Spot) → covered (outline (rows, cols) (listed entities rows cols) given) (at_spot spot) ≡ is_some (outline_value (listed entities rows cols) given spot)
  table_covered spot = covered_is (on_spots (outline_value (listed entities rows cols) given)) (outline (rows, cols) (listed entities rows cols) given) (at_spot spot) leaves

  pub table_kept : (spot : Spot) → replay (outline (rows, cols) (listed entities rows cols) given) (at_spot spot) ≡ option_map sign (outline_value (listed entities rows cols) given spot)
  table_kept spot = kept_is (on_spots (outline_value (listed entities rows cols) given)) (outline (rows, cols) (listed entities rows cols) given) (at_spot spot) _ leaves refl

among : (site : Site) (sites : List Site) → list_any (same_site site) sites ≡ true → Contains sites site
among site sites h =
    let found = Any-from_list_any (same_site site) sites h in
    let P : Site → Type 0 = λ x. slice_index_or sites found.0 x ≡ x in
    (found.0, found.2, subst P (sym (same_site-eq site found.1 found.4)) found.3)

nowhere : {T : Type 0} (value : Site → Option T) (es : List (Event T)) (q : Site) → Leaves value es → value q ≡ None → covered es q ≡ true → ⊥
nowhere value es q h none c = let e : is_some (value q) ≡ true = sym (covered_is value es q h) ∙ c in let k : is_some (value q) ≡ false = ap is_some none in cc

-- an event is at an edge or a crossing of the table
pub at_its_spots : {T : Type 0} (entities : List Entity) (rows cols : ℕ) (given : Outlining T) (site : Site) → covered (outline (rows, cols) (listed entities rows cols) given) site ≡ true → IsSpotOf (rows, cols) site
unfolding outline
at_its_spots entities rows cols given (at_spot spot) h =
    among (at_spot spot) (map at_spot (every_spot (rows, cols)))
    (any_map (same_site (at_spot spot)) at_spot (every_spot (rows, cols))
    ∙ (and_parts (is_some (outline_value (listed entities rows cols) given spot)) (list_any (same_spot spot) (every_spot (rows, cols))) (sym (covered_written (outline_value (listed entities rows cols) given) (every_spot (rows, cols)) spot) ∙ h)).1)
at_its_spots entities rows cols given the_default h = absurd (nowhere _ (outline (rows, cols) (listed entities rows cols) given) the_default (leaves entities rows cols given) refl h)
at_its_spots entities rows cols given (of_class class) h = absurd (nowhere _ (outline (rows, cols) (listed entities rows cols) given) (of_class class) (leaves entities rows cols given) refl h)
at_its_spots entities rows cols given (of_line line part) h = absurd (nowhere _ (outline (rows, cols) (listed entities rows cols) given) (of_line line part) (leaves entities rows cols given) refl h)
at_its_spots entities rows cols given (at_offset d r c offset) h = absurd (nowhere _ (outline (rows, cols) (listed entities rows cols) given) (at_offset d r c offset) (leaves entities rows cols given) refl h)

-- nothing stands between two cells alike
pub nothing_across : {T : Type 0} (border : Border T) (above below : Bool) → above ≡ below → is_some (across_value border above below) ≡ false
nothing_across border true false e = absurd cc
nothing_across border false true e = absurd cc
nothing_across border above below e = refl

pub nothing_down : {T : Type 0} (border : Border T) (left right : Bool) → left ≡ right → is_some (down_value border left right) ≡ false
nothing_down border true false e = absurd cc
nothing_down border false true e = absurd cc
nothing_down border left right e = refl

-- Writes that are added one after the other.
use Rattle.std.proofs.Common.{◌≡◌, Option, Some, None, List, [], ◌∷◌, ◌++◌, refl, sym, ap, ◌∙◌, append_assoc, append-nil}
use Rattle.tabled_object.specs.declared.position.Position.{Position}
use Rattle.tabled_places.specs.declared.place.Place.{Place}
use Rattle.tabled_places.specs.declared.site.Spot.{Spot}
use Rattle.tabled_places.specs.declared.event.Event.{Event}
use Rattle.tabled_places.specs.declared.writes.Target.{Target}
use Rattle.tabled_places.specs.declared.writes.Write.{Write}
use Rattle.tabled_places.specs.Calls.{spot_of}
use Rattle.tabled_places.specs.Writes.{writes_made}
use Rattle.tabled_places.proofs.EntityBorders.{added}
use Rattle.tabled_highlight.specs.declared.around.Neighbors.{Neighbors}
use Rattle.tabled_highlight.specs.Outline.{Outlining, CellSet}
use Rattle.tabled_highlight.specs.Around.{written_at, all_written, neighbors, sides, corners, line_after, written_around_each}

pub all_written-append : {T : Type 0} (xs ys : List (Spot × Option T)) → all_written (xs ++ ys) ≡ all_written xs ++ all_written ys
unfolding all_written
all_written-append [] ys = refl
all_written-append (x ∷ xs) ys = ap (λ es. written_at x ++ es) (all_written-append xs ys) ∙ sym (append_assoc (written_at x) (all_written xs) (all_written ys))

-- nothing written, and nothing for a value that is missing
pub nothing_more : {T : Type 0} (es : List (Event T)) → es ≡ es ++ all_written []
unfolding all_written
nothing_more es = sym (append-nil es)

pub missing_more : {T : Type 0} (es : List (Event T)) (spot : Spot) (value : Option T) → value ≡ None → es ≡ es ++ all_written ((spot, value) ∷ [])
unfolding all_written
missing_more es spot value is = sym (append-nil es) ∙ ap (λ x. es ++ all_written ((spot, x) ∷ [])) (sym is)

-- one value more, where it is known by another name
pub one_more : {T : Type 0} (before es fs : List (Event T)) (entries : List (Spot × Option T)) (spot there : Spot) (value known : Option T) → spot ≡ there → value ≡ known
    → es ≡ before ++ all_written entries → fs ≡ es ++ all_written ((spot, value) ∷ []) → fs ≡ before ++ all_written (entries ++ (there, known) ∷ [])
one_more before es fs entries spot there value known same is so_far more =
    more ∙ (λ i. so_far i ++ all_written ((same i, is i) ∷ [])) ∙ append_assoc before (all_written entries) (all_written ((there, known) ∷ []))
    ∙ ap (λ all. before ++ all) (sym (all_written-append entries ((there, known) ∷ [])))

-- a write that was pushed
pub pushed : {T : Type 0} (all ws : List (Write T)) (place : Place) (value : Option T) (copy now : T) → all ≡ ws ++ record { target = Some (Target.Cell place); value = Some copy } ∷ [] → copy ≡ now → value ≡ Some now
    → writes_made all ≡ writes_made ws ++ all_written ((spot_of place, value) ∷ [])
unfolding all_written writes_made
pushed all ws place value copy now more same is =
    added all ws (record { target = Some (Target.Cell place); value = Some copy }) more
    ∙ ap (λ x. writes_made ws ++ all_written ((spot_of place, x) ∷ [])) (ap Some same ∙ sym is)

-- a cell more, and what is left to be written
pub one_cell_more : {T : Type 0} (given : Outlining T) (cells : CellSet) (pos : Position) (near : Neighbors) (items rest : List Position) (before es fs all : List (Event T)) → items ≡ pos ∷ rest
    → near ≡ neighbors cells pos.row (line_after pos.row) pos.col (line_after pos.col)
    → es ≡ before ++ all_written (sides given.border near pos.row (line_after pos.row) pos.col (line_after pos.col))
    → fs ≡ es ++ all_written (corners given near pos.row (line_after pos.row) pos.col (line_after pos.col))
    → before ++ written_around_each given cells items ≡ all → fs ++ written_around_each given cells rest ≡ all
one_cell_more given cells pos near items rest before es fs all next is at_sides at_corners so_far =
    let down = line_after pos.row in
    let right = line_after pos.col in
    let left = written_around_each given cells rest in
    ap (λ x. x ++ left) (at_corners ∙ ap (λ x. x ++ all_written (corners given near pos.row down pos.col right)) at_sides)
    ∙ ap (λ x. x ++ left) (append_assoc before (all_written (sides given.border near pos.row down pos.col right)) (all_written (corners given near pos.row down pos.col right)))
    ∙ append_assoc before (all_written (sides given.border near pos.row down pos.col right) ++ all_written (corners given near pos.row down pos.col right)) left
    ∙ ap (λ x. before ++ (x ++ left)) (sym (all_written-append (sides given.border near pos.row down pos.col right) (corners given near pos.row down pos.col right)))
    ∙ ap (λ n. before ++ (all_written (sides given.border n pos.row down pos.col right ++ corners given n pos.row down pos.col right) ++ left)) is
    ∙ ap (λ list. before ++ written_around_each given cells list) (sym next)
    ∙ so_far

-- The lines of a text, and the places of a vertical line, in one order.
use Rattle.std.proofs.Common.{◌≡◌, ℕ, ◌≤◌, Bool, true, false, ◌||◌, cond, nat_lt, if◌then◌else◌, List, [], ◌∷◌, ◌++◌, map, slice_index_or, refl, ap, sym, ◌∙◌}
use Rattle.std.specs.List.{flat_map}
use Rattle.std.proofs.lemmas.Bool.{le-ltb}
use Rattle.std.proofs.lemmas.List.{map-append}
use Rattle.std.proofs.lemmas.Simd.{map-map}
use Rattle.tabled_places.specs.declared.place.Place.{Place}
use Rattle.tabled_places.specs.declared.place.LineOf.{LineOf}
use Rattle.tabled_object.specs.Entities.{below}
use Rattle.tabled_printing.specs.Along.{is_empty, crossing_at, along_line}
use Rattle.tabled_printing.specs.Picture.{Look, mark_at, marks_along, line_if_drawn, row_lines, text_lines}
use Rattle.tabled_border_claims.specs.TextOrder.{of_line, of_row, line_there, text_order, line_text, place_in}
use Rattle.tabled_width.specs.Texts.{Table}

-- a function over steps in a row
each_step : {A B : Type 0} (f : A → B) (step : ℕ → List A) (other : ℕ → List B) → ((r : ℕ) → map f (step r) ≡ other r) → (rs : List ℕ) → map f (flat_map step rs) ≡ flat_map other rs
each_step f step other same [] = refl
each_step f step other same (r ∷ rs) = map-append f (step r) (flat_map step rs) ∙ (λ i. same r i ++ each_step f step other same rs i)

-- over steps in a row, each in two parts, and a last part
steps_closed : {A B : Type 0} (f : A → B) (first second : ℕ → List A) (one other : ℕ → List B) (rs : List ℕ) (last : ℕ) → ((r : ℕ) → map f (first r) ≡ one r) → ((r : ℕ) → map f (second r) ≡ other r)
    → map f (flat_map (λ r. first r ++ second r) rs ++ first last) ≡ flat_map (λ r. one r ++ other r) rs ++ one last
steps_closed f first second one other rs last same_first same_second =
    map-append f (flat_map (λ r. first r ++ second r) rs) (first last)
    ∙ (λ i.
    each_step f (λ r. first r ++ second r) (λ r. one r ++ other r) (λ r. map-append f (first r) (second r) ∙ (λ j. same_first r j ++ same_second r j)) rs i ++ same_first last i)

-- over what is there or not
over_one : {A B : Type 0} (f : A → B) (b : Bool) (x : A) → map f (if b then x ∷ [] else []) ≡ (if b then f x ∷ [] else [])
over_one f true x = refl
over_one f false x = refl

pub texts_in_order : (view : Look) (cells : Table) → is_empty view.shape ≡ false → text_lines view cells ≡ map (line_text view cells) (text_order view)
texts_in_order view cells any =
    let lines : List (List ℕ) = flat_map (λ r. line_if_drawn view r ++ row_lines view r (slice_index_or cells r [])) (below view.shape.0) ++ line_if_drawn view view.shape.0 in
    ap (λ empty. if empty then [] else lines) any
    ∙ sym (steps_closed (line_text view cells) (line_there view) (λ r. map (of_row r) (below (view.heights r))) (line_if_drawn view) (λ r. row_lines view r (slice_index_or cells r [])) (below view.shape.0) view.shape.0
    (λ r. over_one (line_text view cells) (view.horizontal r) (of_line r))
    (λ r. map-map (line_text view cells) (of_row r) (below (view.heights r))))

places_in_order : (view : Look) (col : ℕ) → along_line view.horizontal view.heights view.shape.0 (λ r. Place.Cross r col) (λ r k. Place.Vertical r col k) ≡ map (place_in col) (text_order view)
places_in_order view col =
    sym (steps_closed (place_in col) (line_there view) (λ r. map (of_row r) (below (view.heights r))) (crossing_at view.horizontal (λ r. Place.Cross r col)) (λ r. map (λ k. Place.Vertical r col k) (below (view.heights r))) (below view.shape.0) view.shape.0
    (λ r. over_one (place_in col) (view.horizontal r) (of_line r))
    (λ r. map-map (place_in col) (of_row r) (below (view.heights r))))

pub marks_in_order : (view : Look) (col : ℕ) → is_empty view.shape ≡ false → col ≤ view.shape.1 → marks_along view (LineOf.Vertical col) ≡ map (λ at. mark_at view (place_in col at)) (text_order view)
marks_in_order view col any within =
    let places : List Place = along_line view.horizontal view.heights view.shape.0 (λ r. Place.Cross r col) (λ r k. Place.Vertical r col k) in
    ap (map (mark_at view)) (ap (λ empty. cond (empty || nat_lt view.shape.1 col) [] places) any ∙ ap (λ past. cond past [] places) (le-ltb view.shape.1 col within) ∙ places_in_order view col)
    ∙ map-map (mark_at view) (place_in col) (text_order view)

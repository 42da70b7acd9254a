-- Every edge and every crossing of a table, and the outline as a list over them.
use Rattle.std.proofs.Common.{◌≡◌, ℕ, suc, ◌+◌, ◌&&◌, Bool, true, nat_lt, is_some, Option, Some, None, List, [], ◌∷◌, map, ap, ◌∙◌}
use Rattle.std.specs.List.{list_any, flat_map}
use Rattle.std.proofs.lemmas.List.Folds.{list_any-append}
use Rattle.std.proofs.lemmas.Bool.{or_left, or_right, and_from, and_parts}
use Rattle.tabled_object.specs.declared.position.Position.{Position}
use Rattle.tabled_object.specs.Entities.{position, below, is_inside}
use Rattle.tabled_object.proofs.Sets.{any_map}
use Rattle.tabled_places.specs.declared.place.LineOf.{LineOf}
use Rattle.tabled_places.specs.declared.site.Direction.TheVariants.{Horizontal, Vertical}
use Rattle.tabled_places.specs.declared.site.Spot.{Spot}
use Rattle.tabled_places.specs.declared.site.Spot.TheVariants.{Edge, Crossing}
use Rattle.tabled_places.specs.declared.site.Site.TheVariants.{Cell as at_spot}
use Rattle.tabled_places.specs.Site.{same_spot}
use Rattle.tabled_places.specs.Keys.{same_spot-eq}
use Rattle.tabled_places.specs.Event.{covered}
use Rattle.tabled_places.specs.Calls.{line_spots, edge_of, crossing_of}
use Rattle.tabled_places.proofs.Leaving.{Leaves, on_spots, leaves_on_spots, all_agree, covered_written, spot_itself}
use Rattle.tabled_highlight.specs.Outline.{Outlining, CellSet, outline_value, every_spot, outline}
use Rattle.tabled_highlight.specs.Around.{all_written, around}
use Rattle.tabled_highlight.proofs.Tests.{one_holds, less_here, less_next, found_below, any_flat}
use Rattle.tabled_highlight.proofs.CellOutline.{found}

module _ (rows cols : ℕ) where
  -- whether a table has the edge or the crossing
  abbrev pub in_table : Spot → Bool
  in_table (Edge Horizontal r c) = nat_lt r (rows + 1) && nat_lt c cols
  in_table (Edge Vertical r c) = nat_lt r rows && nat_lt c (cols + 1)
  in_table (Crossing r c) = nat_lt r (rows + 1) && nat_lt c (cols + 1)

  across_spots : List Spot
  across_spots = flat_map (λ line. line_spots (LineOf.Horizontal line) cols) (below (rows + 1))

  down_spots : List Spot
  down_spots = flat_map (λ line. map (edge_of (LineOf.Vertical line)) (below rows)) (below (cols + 1))

  -- the table's are all listed
  pub all_listed : (q : Spot) → in_table q ≡ true → list_any (same_spot q) (every_spot (rows, cols)) ≡ true
  unfolding across_spots down_spots
  all_listed (Edge Horizontal r c) h =
      let q = Edge Horizontal r c in
      let inside = and_parts (nat_lt r (rows + 1)) (nat_lt c cols) h in
      list_any-append (same_spot q) across_spots down_spots
      ∙ or_left (list_any (same_spot q) across_spots) (list_any (same_spot q) down_spots)
      (any_flat (same_spot q) (λ line. line_spots (LineOf.Horizontal line) cols) (below (rows + 1))
      ∙ found_below (λ line. list_any (same_spot q) (line_spots (LineOf.Horizontal line) cols)) r (rows + 1) inside.0
      (list_any-append (same_spot q) (map (edge_of (LineOf.Horizontal r)) (below cols)) (map (crossing_of (LineOf.Horizontal r)) (below (cols + 1)))
      ∙ or_left _ (list_any (same_spot q) (map (crossing_of (LineOf.Horizontal r)) (below (cols + 1))))
      (any_map (same_spot q) (edge_of (LineOf.Horizontal r)) (below cols) ∙ found_below (λ at. same_spot q (Edge Horizontal r at)) c cols inside.1 (spot_itself q))))
  all_listed (Crossing r c) h =
      let q = Crossing r c in
      let inside = and_parts (nat_lt r (rows + 1)) (nat_lt c (cols + 1)) h in
      list_any-append (same_spot q) across_spots down_spots
      ∙ or_left (list_any (same_spot q) across_spots) (list_any (same_spot q) down_spots)
      (any_flat (same_spot q) (λ line. line_spots (LineOf.Horizontal line) cols) (below (rows + 1))
      ∙ found_below (λ line. list_any (same_spot q) (line_spots (LineOf.Horizontal line) cols)) r (rows + 1) inside.0
      (list_any-append (same_spot q) (map (edge_of (LineOf.Horizontal r)) (below cols)) (map (crossing_of (LineOf.Horizontal r)) (below (cols + 1)))
      ∙ or_right (list_any (same_spot q) (map (edge_of (LineOf.Horizontal r)) (below cols))) _
      (any_map (same_spot q) (crossing_of (LineOf.Horizontal r)) (below (cols + 1)) ∙ found_below (λ at. same_spot q (Crossing r at)) c (cols + 1) inside.1 (spot_itself q))))
  all_listed (Edge Vertical r c) h =
      let q = Edge Vertical r c in
      let inside = and_parts (nat_lt r rows) (nat_lt c (cols + 1)) h in
      list_any-append (same_spot q) across_spots down_spots
      ∙ or_right (list_any (same_spot q) across_spots) (list_any (same_spot q) down_spots)
      (any_flat (same_spot q) (λ line. map (edge_of (LineOf.Vertical line)) (below rows)) (below (cols + 1))
      ∙ found_below (λ line. list_any (same_spot q) (map (edge_of (LineOf.Vertical line)) (below rows))) c (cols + 1) inside.1
      (any_map (same_spot q) (edge_of (LineOf.Vertical c)) (below rows) ∙ found_below (λ at. same_spot q (Edge Vertical at c)) r rows inside.0 (spot_itself q)))

  -- each entry of a list is at an edge or a crossing of the table
  abbrev AllIn : {T : Type 0} → List (Spot × Option T) → Type 0
  AllIn [] = Unit {0}
  AllIn (entry ∷ entries) = (in_table entry.0 ≡ true) × AllIn entries

  covered_in : {T : Type 0} (q : Spot) (entries : List (Spot × Option T)) → AllIn entries → covered (all_written entries) (at_spot q) ≡ true → in_table q ≡ true
  unfolding all_written
  covered_in q [] all h = absurd cc
  covered_in q ((spot, None) ∷ entries) all h = covered_in q entries all.1 h
  covered_in q ((spot, Some x) ∷ entries) all h =
      one_holds (same_spot q spot) (covered (all_written entries) (at_spot q)) h (λ e. ap in_table (same_spot-eq q spot e) ∙ all.0) (covered_in q entries all.1)

  around_in : {T : Type 0} (given : Outlining T) (cells : CellSet) (r c : ℕ) → nat_lt r rows ≡ true → nat_lt c cols ≡ true → AllIn (around given cells r (suc r) c (suc c))
  around_in given cells r c hr hc =
      let here = less_here r rows hr in
      let next = less_next r rows hr in
      let at = less_here c cols hc in
      let right = less_next c cols hc in
      (and_from _ _ here hc, (and_from _ _ next hc, (and_from _ _ hr at, (and_from _ _ hr right, (and_from _ _ here at, (and_from _ _ here right, (and_from _ _ next at, (and_from _ _ next right, tt))))))))

-- the outline of cells that lie in the table has something at its edges and crossings alone
pub outline_inside : {T : Type 0} (rows cols : ℕ) (cells : CellSet) (given : Outlining T) → ((pos : Position) → cells pos ≡ true → is_inside rows cols pos ≡ true)
    → (spot : Spot) → is_some (outline_value cells given spot) ≡ true → in_table rows cols spot ≡ true
outline_inside rows cols cells given inside spot h =
    let cell = found given cells spot h in
    let lies = and_parts (nat_lt cell.row rows) (nat_lt cell.col cols) (inside (position cell.row cell.col) cell.chosen) in
    covered_in rows cols spot (around given cells cell.row (suc cell.row) cell.col (suc cell.col)) (around_in rows cols given cells cell.row cell.col lies.0 lies.1) cell.written

pub outline_leaves : {T : Type 0} (rows cols : ℕ) (cells : CellSet) (given : Outlining T) → ((pos : Position) → cells pos ≡ true → is_inside rows cols pos ≡ true)
    → Leaves (on_spots (outline_value cells given)) (outline (rows, cols) cells given)
unfolding outline
outline_leaves rows cols cells given inside =
    leaves_on_spots (outline_value cells given) (outline (rows, cols) cells given) (all_agree (outline_value cells given) (every_spot (rows, cols)))
    (λ spot h. covered_written (outline_value cells given) (every_spot (rows, cols)) spot
    ∙ and_from (is_some (outline_value cells given spot)) (list_any (same_spot spot) (every_spot (rows, cols))) h (all_listed rows cols spot (outline_inside rows cols cells given inside spot h)))

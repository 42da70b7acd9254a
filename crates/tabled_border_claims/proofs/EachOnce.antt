-- An outline writes each site at most once.
use Rattle.std.proofs.Common.{◌≡◌, ◌<◌, ◌==◌, ◌&&◌, ℕ, ◌+◌, Bool, false, true, Option, Some, None, List, [], ◌∷◌, map, option_map, refl, ap, arith}
use Rattle.std.specs.List.{IsDistinct, cons_option, filter_map, flat_map}
use Rattle.std.proofs.lemmas.Bool.Decides.{nat_tests}
use Rattle.tabled_places.specs.declared.event.Event.TheVariants.{Write as write}
use Rattle.tabled_places.specs.declared.event.Written.TheVariants.{Sign as sign}
use Rattle.tabled_places.specs.declared.place.LineOf.{LineOf}
use Rattle.tabled_places.specs.declared.event.Event.{Event}
use Rattle.tabled_places.specs.declared.site.Site.{Site}
use Rattle.tabled_places.specs.declared.site.Site.TheVariants.{Cell as at_spot}
use Rattle.tabled_places.specs.declared.site.Spot.{Spot}
use Rattle.tabled_places.specs.Calls.{crossing_of, edge_of, line_spots}
use Rattle.tabled_places.specs.Drawn.{written}
use Rattle.tabled_places.specs.Site.{same_site, same_spot}
use Rattle.tabled_object.specs.Entities.{below}
use Rattle.tabled_highlight.specs.Outline.{Outlining, CellSet, every_spot, outline, outline_value}
use Rattle.tabled_border_claims.proofs.Distinct.{Apart, AllApart, apart_from_both, both_apart, distinct-append, distinct_lists, distinct_made, lists_apart, made_apart}

-- of two numbers, one below the other
below_not : (m n : ℕ) → m < n → (m == n) ≡ false
below_not m n h = grind (arith, nat_tests, h)

neither : (a b : Bool) → a ≡ false → (a && b) ≡ false
neither a b h = ap (λ c. c && b) h

second_not : (a b : Bool) → b ≡ false → (a && b) ≡ false
second_not true b h = h
second_not false b h = refl

module _ (rows cols : ℕ) where
  across : ℕ → List Spot
  across line = line_spots (LineOf.Horizontal line) cols

  down : ℕ → List Spot
  down line = map (edge_of (LineOf.Vertical line)) (below rows)

  across_distinct : (line : ℕ) → IsDistinct same_spot (across line)
  unfolding across
  across_distinct line =
      distinct-append same_spot (map (edge_of (LineOf.Horizontal line)) (below cols)) (map (crossing_of (LineOf.Horizontal line)) (below (cols + 1)))
      (distinct_made same_spot (edge_of (LineOf.Horizontal line)) 0 cols (λ m n h. second_not (line == line) (m == n) (below_not m n h)))
      (distinct_made same_spot (crossing_of (LineOf.Horizontal line)) 0 (cols + 1) (λ m n h. second_not (line == line) (m == n) (below_not m n h)))
      (made_apart same_spot (edge_of (LineOf.Horizontal line)) (crossing_of (LineOf.Horizontal line)) 0 cols 0 (cols + 1) (λ m n. refl))

  across_apart : (line next : ℕ) → line < next → AllApart same_spot (across line) (across next)
  unfolding across
  across_apart line next h =
      let edges = edge_of (LineOf.Horizontal line) in
      let crossings = crossing_of (LineOf.Horizontal line) in
      let next_edges = edge_of (LineOf.Horizontal next) in
      let next_crossings = crossing_of (LineOf.Horizontal next) in
      both_apart same_spot (map edges (below cols)) (map crossings (below (cols + 1))) (across next)
      (apart_from_both same_spot (map edges (below cols)) (map next_edges (below cols)) (map next_crossings (below (cols + 1)))
      (made_apart same_spot edges next_edges 0 cols 0 cols (λ m n. neither (line == next) (m == n) (below_not line next h)))
      (made_apart same_spot edges next_crossings 0 cols 0 (cols + 1) (λ m n. refl)))
      (apart_from_both same_spot (map crossings (below (cols + 1))) (map next_edges (below cols)) (map next_crossings (below (cols + 1)))
      (made_apart same_spot crossings next_edges 0 (cols + 1) 0 cols (λ m n. refl))
      (made_apart same_spot crossings next_crossings 0 (cols + 1) 0 (cols + 1) (λ m n. neither (line == next) (m == n) (below_not line next h))))

  down_distinct : (line : ℕ) → IsDistinct same_spot (down line)
  unfolding down
  down_distinct line = distinct_made same_spot (edge_of (LineOf.Vertical line)) 0 rows (λ m n h. neither (m == n) (line == line) (below_not m n h))

  down_apart : (line next : ℕ) → line < next → AllApart same_spot (down line) (down next)
  unfolding down
  down_apart line next h = made_apart same_spot (edge_of (LineOf.Vertical line)) (edge_of (LineOf.Vertical next)) 0 rows 0 rows (λ m n. second_not (m == n) (line == next) (below_not line next h))

  across_and_down : (line other : ℕ) → AllApart same_spot (across line) (down other)
  unfolding across down
  across_and_down line other =
      both_apart same_spot (map (edge_of (LineOf.Horizontal line)) (below cols)) (map (crossing_of (LineOf.Horizontal line)) (below (cols + 1))) (down other)
      (made_apart same_spot (edge_of (LineOf.Horizontal line)) (edge_of (LineOf.Vertical other)) 0 cols 0 rows (λ m n. refl))
      (made_apart same_spot (crossing_of (LineOf.Horizontal line)) (edge_of (LineOf.Vertical other)) 0 (cols + 1) 0 rows (λ m n. refl))

  every_spot_once : IsDistinct same_spot (every_spot (rows, cols))
  unfolding across down
  every_spot_once =
      distinct-append same_spot (flat_map across (below (rows + 1))) (flat_map down (below (cols + 1)))
      (distinct_lists same_spot across 0 (rows + 1) across_distinct across_apart)
      (distinct_lists same_spot down 0 (cols + 1) down_distinct down_apart)
      (lists_apart same_spot across down 0 (rows + 1) 0 (cols + 1) across_and_down)

module _ {T : Type 0} (value : Spot → Option T) where
  -- the write at a spot that has a value
  abbrev write_of : Spot → Option (Event T)
  write_of spot = option_map (λ x. write (at_spot spot) (sign x)) (value spot)

  -- the sites that are written where spots have values
  abbrev sites : List Spot → List Site
  sites spots = written (filter_map write_of spots)

  apart_more : (x spot : Spot) (o : Option T) (rest : List (Event T)) → same_spot x spot ≡ false → Apart same_site (at_spot x) (written rest)
      → Apart same_site (at_spot x) (written (cons_option (option_map (λ v. write (at_spot spot) (sign v)) o) rest))
  apart_more x spot None rest here there = there
  apart_more x spot (Some v) rest here there = (here, there)

  sites_apart : (x : Spot) (spots : List Spot) → Apart same_spot x spots → Apart same_site (at_spot x) (sites spots)
  sites_apart x [] apart = tt
  sites_apart x (spot ∷ spots) apart = apart_more x spot (value spot) (filter_map write_of spots) apart.0 (sites_apart x spots apart.1)

  distinct_more : (spot : Spot) (o : Option T) (rest : List (Event T)) → Apart same_site (at_spot spot) (written rest) → IsDistinct same_site (written rest)
      → IsDistinct same_site (written (cons_option (option_map (λ v. write (at_spot spot) (sign v)) o) rest))
  unfolding IsDistinct
  distinct_more spot None rest apart each = each
  distinct_more spot (Some v) rest apart each = (apart, each)

  sites_distinct : (spots : List Spot) → IsDistinct same_spot spots → IsDistinct same_site (sites spots)
  unfolding IsDistinct
  sites_distinct [] each = tt
  sites_distinct (spot ∷ spots) each =
      distinct_more spot (value spot) (filter_map write_of spots) (sites_apart spot spots each.0) (sites_distinct spots each.1)

pub each_once : {T : Type 0} (rows cols : ℕ) (cells : CellSet) (given : Outlining T) → IsDistinct same_site (written (outline (rows, cols) cells given))
unfolding outline
each_once rows cols cells given = sites_distinct (outline_value cells given) (every_spot (rows, cols)) (every_spot_once rows cols)

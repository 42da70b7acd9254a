-- Two stores keep the same at every level exactly where they do at every site.
use Rattle.std.proofs.Common.{◌≡◌, Bool, true, Option, Some, None, refl, option_map, option_and_then}
use Rattle.std.specs.Option.{option_eq}
use Rattle.std.specs.Cmp.{nat_cmp_total}
use Rattle.std.proofs.lemmas.Bool.{and_parts}
use Rattle.tabled_places.specs.declared.borders.Borders.{Borders}
use Rattle.tabled_places.specs.declared.lines.HorizontalLine.{HorizontalLine}
use Rattle.tabled_places.specs.declared.lines.VerticalLine.{VerticalLine}
use Rattle.tabled_places.specs.declared.place.LineOf.{LineOf}
use Rattle.tabled_places.specs.Keys.{spots_total, edge_places_total}
use Rattle.tabled_places.specs.declared.site.Direction.TheVariants.{Horizontal, Vertical}
use Rattle.tabled_places.specs.declared.place.Rank.TheVariants.{First as first, Inner as inner, Last as last}
use Rattle.tabled_places.specs.declared.site.Class.{Class}
use Rattle.tabled_places.specs.declared.site.Class.TheVariants.{Edges as edges, Crossings as crossings}
use Rattle.tabled_places.specs.Site.{class_value}
use Rattle.tabled_places.specs.declared.site.Part.{Part}
use Rattle.tabled_places.specs.declared.site.Part.TheVariants.{Mark as mark, Edges as main_edges, Crossings as meeting}
use Rattle.tabled_places.specs.declared.site.Site.{Site}
use Rattle.tabled_places.specs.declared.site.Site.TheVariants.{Default as the_default, Class as of_class, Line as of_line, Cell as at_spot, Offset as at_offset}
use Rattle.tabled_places.specs.declared.event.Written.{Written}
use Rattle.tabled_places.specs.declared.event.Written.TheVariants.{Sign as sign}
use Rattle.tabled_places.specs.State.{State, state_at, edge_place, horizontal_part, vertical_part}
use Rattle.tabled_kept.proofs.SameGets.{all_of, get_alike, alike_get}
use Rattle.tabled_grid.specs.Same.{same_horizontal, same_vertical, same_borders, same_below, same_lines, same_cells, same_state, same_written}
use Rattle.tabled_kept.specs.Same.{same_map}

abbrev SameValues : {V : Type 0} → (V → V → Bool) → Option V → Option V → Type 0
SameValues E a b = option_eq E a b ≡ true

abbrev SameKept : {V : Type 0} → (V → V → Bool) → Option (Written V) → Option (Written V) → Type 0
SameKept E a b = option_eq (same_written E) a b ≡ true

module _ {V : Type 0} (E : V → V → Bool) where
  as_signs : (a b : Option V) → SameValues E a b → SameKept E (option_map sign a) (option_map sign b)
  as_signs None None h = refl
  as_signs None (Some y) h = h
  as_signs (Some x) None h = h
  as_signs (Some x) (Some y) h = h

  of_signs : (a b : Option V) → SameKept E (option_map sign a) (option_map sign b) → SameValues E a b
  of_signs None None h = refl
  of_signs None (Some y) h = h
  of_signs (Some x) None h = h
  of_signs (Some x) (Some y) h = h

  horizontal_fields : (x y : HorizontalLine V) → same_horizontal E x y ≡ true → SameValues E x.main y.main × (SameValues E x.intersection y.intersection × (SameValues E x.left y.left × SameValues E x.right y.right))
  horizontal_fields x y h =
      let f = and_parts _ _ h in
      let g = and_parts _ _ f.1 in
      (f.0, (g.0, and_parts _ _ g.1))

  horizontal_parts : (a b : Option (HorizontalLine V)) → option_eq (same_horizontal E) a b ≡ true → (part : Part) → SameKept E (option_and_then (horizontal_part part) a) (option_and_then (horizontal_part part) b)
  horizontal_parts None (Some y) h part = absurd cc
  horizontal_parts (Some x) None h part = absurd cc
  horizontal_parts (Some x) (Some y) h main_edges = as_signs x.main y.main (horizontal_fields x y h).0
  horizontal_parts (Some x) (Some y) h (meeting inner) = as_signs x.intersection y.intersection (horizontal_fields x y h).1.0
  horizontal_parts (Some x) (Some y) h (meeting first) = as_signs x.left y.left (horizontal_fields x y h).1.1.0
  horizontal_parts (Some x) (Some y) h (meeting last) = as_signs x.right y.right (horizontal_fields x y h).1.1.1
  horizontal_parts a b h part = refl

  vertical_fields : (x y : VerticalLine V) → same_vertical E x y ≡ true → SameValues E x.main y.main × (SameValues E x.intersection y.intersection × (SameValues E x.top y.top × SameValues E x.bottom y.bottom))
  vertical_fields x y h =
      let f = and_parts _ _ h in
      let g = and_parts _ _ f.1 in
      (f.0, (g.0, and_parts _ _ g.1))

  vertical_parts : (a b : Option (VerticalLine V)) → option_eq (same_vertical E) a b ≡ true → (part : Part) → SameKept E (option_and_then (vertical_part part) a) (option_and_then (vertical_part part) b)
  vertical_parts None (Some y) h part = absurd cc
  vertical_parts (Some x) None h part = absurd cc
  vertical_parts (Some x) (Some y) h main_edges = as_signs x.main y.main (vertical_fields x y h).0
  vertical_parts (Some x) (Some y) h (meeting inner) = as_signs x.intersection y.intersection (vertical_fields x y h).1.0
  vertical_parts (Some x) (Some y) h (meeting first) = as_signs x.top y.top (vertical_fields x y h).1.1.0
  vertical_parts (Some x) (Some y) h (meeting last) = as_signs x.bottom y.bottom (vertical_fields x y h).1.1.1
  vertical_parts a b h part = refl

  whole_horizontal : (a b : Option (HorizontalLine V)) → ((part : Part) → SameKept E (option_and_then (horizontal_part part) a) (option_and_then (horizontal_part part) b)) → option_eq (same_horizontal E) a b ≡ true
  whole_horizontal None None h = refl
  whole_horizontal None (Some y) h = h mark
  whole_horizontal (Some x) None h = h mark
  whole_horizontal (Some x) (Some y) h =
      all_of (of_signs x.main y.main (h main_edges)) (all_of (of_signs x.intersection y.intersection (h (meeting inner))) (all_of (of_signs x.left y.left (h (meeting first))) (of_signs x.right y.right (h (meeting last)))))

  whole_vertical : (a b : Option (VerticalLine V)) → ((part : Part) → SameKept E (option_and_then (vertical_part part) a) (option_and_then (vertical_part part) b)) → option_eq (same_vertical E) a b ≡ true
  whole_vertical None None h = refl
  whole_vertical None (Some y) h = h mark
  whole_vertical (Some x) None h = h mark
  whole_vertical (Some x) (Some y) h =
      all_of (of_signs x.main y.main (h main_edges)) (all_of (of_signs x.intersection y.intersection (h (meeting inner))) (all_of (of_signs x.top y.top (h (meeting first))) (of_signs x.bottom y.bottom (h (meeting last)))))

  whole_borders : (a b : Borders V) → ((class : Class) → SameValues E (class_value class a) (class_value class b)) → same_borders E a b ≡ true
  whole_borders a b h =
      all_of (h (edges Horizontal first)) (all_of (h (edges Horizontal last)) (all_of (h (edges Vertical first)) (all_of (h (edges Vertical last))
      (all_of (h (crossings first first)) (all_of (h (crossings first last)) (all_of (h (crossings last first)) (all_of (h (crossings last last))
      (all_of (h (crossings first inner)) (all_of (h (crossings last inner)) (all_of (h (crossings inner first)) (all_of (h (crossings inner last))
      (all_of (h (edges Horizontal inner)) (all_of (h (edges Vertical inner)) (h (crossings inner inner)))))))))))))))

  borders_parts : (a b : Borders V) → same_borders E a b ≡ true → (class : Class) → SameValues E (class_value class a) (class_value class b)
  borders_parts a b h class =
      let f1 = and_parts _ _ h in
      let f2 = and_parts _ _ f1.1 in
      let f3 = and_parts _ _ f2.1 in
      let f4 = and_parts _ _ f3.1 in
      let f5 = and_parts _ _ f4.1 in
      let f6 = and_parts _ _ f5.1 in
      let f7 = and_parts _ _ f6.1 in
      let f8 = and_parts _ _ f7.1 in
      let f9 = and_parts _ _ f8.1 in
      let f10 = and_parts _ _ f9.1 in
      let f11 = and_parts _ _ f10.1 in
      let f12 = and_parts _ _ f11.1 in
      let f13 = and_parts _ _ f12.1 in
      let f14 = and_parts _ _ f13.1 in
      of_fields class f1.0 f2.0 f3.0 f4.0 f5.0 f6.0 f7.0 f8.0 f9.0 f10.0 f11.0 f12.0 f13.0 f14.0 f14.1
    where
      of_fields : (class : Class) → SameValues E a.top b.top → SameValues E a.bottom b.bottom → SameValues E a.left b.left → SameValues E a.right b.right → SameValues E a.top_left b.top_left → SameValues E a.top_right b.top_right → SameValues E a.bottom_left b.bottom_left → SameValues E a.bottom_right b.bottom_right → SameValues E a.top_intersection b.top_intersection → SameValues E a.bottom_intersection b.bottom_intersection → SameValues E a.left_intersection b.left_intersection → SameValues E a.right_intersection b.right_intersection → SameValues E a.horizontal b.horizontal → SameValues E a.vertical b.vertical → SameValues E a.intersection b.intersection → SameValues E (class_value class a) (class_value class b)
      of_fields (edges Horizontal first) t b' l r tl tr bl br ti bi li ri h v i = t
      of_fields (edges Horizontal inner) t b' l r tl tr bl br ti bi li ri h v i = h
      of_fields (edges Horizontal last) t b' l r tl tr bl br ti bi li ri h v i = b'
      of_fields (edges Vertical first) t b' l r tl tr bl br ti bi li ri h v i = l
      of_fields (edges Vertical inner) t b' l r tl tr bl br ti bi li ri h v i = v
      of_fields (edges Vertical last) t b' l r tl tr bl br ti bi li ri h v i = r
      of_fields (crossings first first) t b' l r tl tr bl br ti bi li ri h v i = tl
      of_fields (crossings first inner) t b' l r tl tr bl br ti bi li ri h v i = ti
      of_fields (crossings first last) t b' l r tl tr bl br ti bi li ri h v i = tr
      of_fields (crossings inner first) t b' l r tl tr bl br ti bi li ri h v i = li
      of_fields (crossings inner inner) t b' l r tl tr bl br ti bi li ri h v i = i
      of_fields (crossings inner last) t b' l r tl tr bl br ti bi li ri h v i = ri
      of_fields (crossings last first) t b' l r tl tr bl br ti bi li ri h v i = bl
      of_fields (crossings last inner) t b' l r tl tr bl br ti bi li ri h v i = bi
      of_fields (crossings last last) t b' l r tl tr bl br ti bi li ri h v i = br

-- two stores that are the same by that equality keep the same at every site
pub same_at_sites : {V : Type 0} (E : V → V → Bool) (a b : State V) → same_state E a b ≡ true → (site : Site) → option_eq (same_written E) (state_at a site) (state_at b site) ≡ true
unfolding same_below same_lines same_cells same_state
same_at_sites E a b h =
    let upper = and_parts _ _ h in
    let lower = and_parts _ _ upper.0 in
    let below = and_parts _ _ lower.0 in
    let lines = and_parts _ _ lower.1 in
    let offsets = and_parts _ _ upper.1 in
    let cells = and_parts _ _ offsets.0 in
    at_site below.0 below.1 lines.0 lines.1 cells.0 cells.1 offsets.1
  where
    at_site : option_eq E a.default_value b.default_value ≡ true → same_borders E a.class_record b.class_record ≡ true → same_map (same_vertical E) a.vertical_lines b.vertical_lines ≡ true → same_map (same_horizontal E) a.horizontal_lines b.horizontal_lines ≡ true → same_map E a.cells b.cells ≡ true → same_map E a.horizontal_offsets b.horizontal_offsets ≡ true → same_map E a.vertical_offsets b.vertical_offsets ≡ true → (site : Site) → option_eq (same_written E) (state_at a site) (state_at b site) ≡ true
    at_site d r vl hl cs ho vo the_default = as_signs E a.default_value b.default_value d
    at_site d r vl hl cs ho vo (of_class class) = as_signs E _ _ (borders_parts E a.class_record b.class_record r class)
    at_site d r vl hl cs ho vo (of_line (LineOf.Horizontal n) part) = horizontal_parts E _ _ (get_alike nat_cmp_total (same_horizontal E) a.horizontal_lines b.horizontal_lines hl n) part
    at_site d r vl hl cs ho vo (of_line (LineOf.Vertical n) part) = vertical_parts E _ _ (get_alike nat_cmp_total (same_vertical E) a.vertical_lines b.vertical_lines vl n) part
    at_site d r vl hl cs ho vo (at_spot spot) = as_signs E _ _ (get_alike spots_total E a.cells b.cells cs spot)
    at_site d r vl hl cs ho vo (at_offset Horizontal i j o) = as_signs E _ _ (get_alike edge_places_total E a.horizontal_offsets b.horizontal_offsets ho (edge_place i j o))
    at_site d r vl hl cs ho vo (at_offset Vertical i j o) = as_signs E _ _ (get_alike edge_places_total E a.vertical_offsets b.vertical_offsets vo (edge_place i j o))

-- and those that keep the same at every site are the same by it
pub same_by_sites : {V : Type 0} (E : V → V → Bool) (a b : State V) → ((site : Site) → option_eq (same_written E) (state_at a site) (state_at b site) ≡ true) → same_state E a b ≡ true
unfolding same_below same_lines same_cells same_state
same_by_sites E a b h =
    all_of (all_of
    (all_of (of_signs E a.default_value b.default_value (h the_default)) (whole_borders E a.class_record b.class_record (λ class. of_signs E _ _ (h (of_class class)))))
    (all_of (alike_get nat_cmp_total (same_vertical E) a.vertical_lines b.vertical_lines (λ n. whole_vertical E _ _ (λ part. h (of_line (LineOf.Vertical n) part))))
    (alike_get nat_cmp_total (same_horizontal E) a.horizontal_lines b.horizontal_lines (λ n. whole_horizontal E _ _ (λ part. h (of_line (LineOf.Horizontal n) part))))))
    (all_of (all_of (alike_get spots_total E a.cells b.cells (λ spot. of_signs E _ _ (h (at_spot spot))))
    (alike_get edge_places_total E a.horizontal_offsets b.horizontal_offsets (λ p. of_signs E _ _ (h (at_offset Horizontal p.row p.col p.offset)))))
    (alike_get edge_places_total E a.vertical_offsets b.vertical_offsets (λ p. of_signs E _ _ (h (at_offset Vertical p.row p.col p.offset)))))

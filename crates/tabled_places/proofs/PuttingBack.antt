-- Single writes, and what puts them back.
use Rattle.std.proofs.Common.{◌≡◌, ℕ, Bool, true, false, cond, ◌&&◌, ◌==◌, Option, Some, None, is_some, IsSome, [], ◌∷◌, refl, ap, sym, ◌∙◌, option_and_then, Result, Ok, Err, OnOk, OnErr, option_map, Ordering}
use Rattle.std.specs.Cmp.{IsTotalOrder, nat_cmp_total, eq_by_cmp_equiv}
use Rattle.std.specs.FinMap as map
use mathlib.Core.Bool.{or-false}
use Rattle.tabled_places.specs.declared.borders.Borders.{Borders}
use Rattle.tabled_places.specs.declared.lines.HorizontalLine.{HorizontalLine}
use Rattle.tabled_places.specs.declared.lines.VerticalLine.{VerticalLine}
use Rattle.tabled_places.specs.declared.place.LineOf.{LineOf}
use Rattle.tabled_places.specs.Keys.{spots_total, exact_spots, is_same_spot, edge_places_total, exact_edge_places, is_same_edge_place}
use Rattle.tabled_places.specs.Site.{Horizontal, Vertical, first, inner, last, Class, edges, crossings, class_value, Part, mark, main_edges, meeting, Site, the_default, of_class, of_line, at_spot, at_offset, same_site, same_offset}
use Rattle.tabled_places.specs.Event.{Written, sign, standing, write, erase, replay, one_site, Changes}
use Rattle.tabled_places.specs.State.{State, state_at, edge_place, horizontal_part, vertical_part}
use Rattle.tabled_places.specs.Calls.{spot_of}
use Rattle.tabled_object.specs.declared.offset.Offset.{Offset}
use Rattle.tabled_places.specs.declared.writes.Target.{Target}
use Rattle.tabled_places.specs.Writes.{site_of, PutsBackAt}
use Rattle.tabled_places.proofs.Replay.{replay_one}
use Rattle.tabled_places.proofs.SameSite.{same_site-eq}
use Rattle.tabled_places.proofs.CellBorders.{by_erasure}

unsigned : {T : Type 0} → Option (Written T) → Option T
unsigned (Some (sign x)) = Some x
unsigned (Some standing) = None
unsigned None = None

unsigned-sign : {T : Type 0} (o : Option T) → unsigned (option_map sign o) ≡ o
unfolding unsigned
unsigned-sign None = refl
unsigned-sign (Some x) = refl

-- equal signs are of equal values
pub of_signs : {T : Type 0} (o p : Option T) → option_map sign o ≡ option_map sign p → o ≡ p
of_signs o p h = sym (unsigned-sign o) ∙ ap unsigned h ∙ unsigned-sign p

same_values : {K T : Type 0} {R : K → K → Ordering} → IsTotalOrder R → map.IsAntisymmetric R → (m n : map.FinMap R T) → ((k : K) → option_map sign (map.get m k) ≡ option_map sign (map.get n k)) → m ≡ n
same_values total exact m n h = map.same_map total exact m n (λ k. of_signs (map.get m k) (map.get n k) (h k))

pub same_horizontal : {T : Type 0} (o p : Option (HorizontalLine T)) → ((part : Part) → option_and_then (horizontal_part part) o ≡ option_and_then (horizontal_part part) p) → o ≡ p
same_horizontal None None h = refl
same_horizontal None (Some m) h = absurd (let e = h mark in cc)
same_horizontal (Some l) None h = absurd (let e = h mark in cc)
same_horizontal (Some l) (Some m) h = λ i. Some (record {
  main = of_signs l.main m.main (h main_edges) i;
  intersection = of_signs l.intersection m.intersection (h (meeting inner)) i;
  left = of_signs l.left m.left (h (meeting first)) i;
  right = of_signs l.right m.right (h (meeting last)) i;
})

pub same_vertical : {T : Type 0} (o p : Option (VerticalLine T)) → ((part : Part) → option_and_then (vertical_part part) o ≡ option_and_then (vertical_part part) p) → o ≡ p
same_vertical None None h = refl
same_vertical None (Some m) h = absurd (let e = h mark in cc)
same_vertical (Some l) None h = absurd (let e = h mark in cc)
same_vertical (Some l) (Some m) h = λ i. Some (record {
  main = of_signs l.main m.main (h main_edges) i;
  intersection = of_signs l.intersection m.intersection (h (meeting inner)) i;
  top = of_signs l.top m.top (h (meeting first)) i;
  bottom = of_signs l.bottom m.bottom (h (meeting last)) i;
})

pub same_classes : {T : Type 0} (a b : Borders T) → ((class : Class) → class_value class a ≡ class_value class b) → a ≡ b
same_classes a b h = λ i. record {
  top = h (edges Horizontal first) i;
  bottom = h (edges Horizontal last) i;
  left = h (edges Vertical first) i;
  right = h (edges Vertical last) i;
  top_left = h (crossings first first) i;
  top_right = h (crossings first last) i;
  bottom_left = h (crossings last first) i;
  bottom_right = h (crossings last last) i;
  top_intersection = h (crossings first inner) i;
  bottom_intersection = h (crossings last inner) i;
  left_intersection = h (crossings inner first) i;
  right_intersection = h (crossings inner last) i;
  horizontal = h (edges Horizontal inner) i;
  vertical = h (edges Vertical inner) i;
  intersection = h (crossings inner inner) i;
}

-- stores that keep the same at every site are one
pub same_state : {T : Type 0} (a b : State T) → ((q : Site) → state_at a q ≡ state_at b q) → a ≡ b
same_state a b h = λ i. record {
  default_value = of_signs a.default_value b.default_value (h the_default) i;
  class_record = same_classes a.class_record b.class_record (λ class. of_signs (class_value class a.class_record) (class_value class b.class_record) (h (of_class class))) i;
  vertical_lines = map.same_map nat_cmp_total map.nat_cmp-IsAntisymmetric a.vertical_lines b.vertical_lines (λ n. same_vertical (map.get a.vertical_lines n) (map.get b.vertical_lines n) (λ part. h (of_line (LineOf.Vertical n) part))) i;
  horizontal_lines = map.same_map nat_cmp_total map.nat_cmp-IsAntisymmetric a.horizontal_lines b.horizontal_lines (λ n. same_horizontal (map.get a.horizontal_lines n) (map.get b.horizontal_lines n) (λ part. h (of_line (LineOf.Horizontal n) part))) i;
  cells = same_values spots_total exact_spots a.cells b.cells (λ spot. h (at_spot spot)) i;
  horizontal_offsets = same_values edge_places_total exact_edge_places a.horizontal_offsets b.horizontal_offsets (λ p. h (at_offset Horizontal p.row p.col p.offset)) i;
  vertical_offsets = same_values edge_places_total exact_edge_places a.vertical_offsets b.vertical_offsets (λ p. h (at_offset Vertical p.row p.col p.offset)) i;
}

once : {A : Type 0} (b : Bool) (x y z : A) → cond b (cond b x y) z ≡ cond b x z
once true x y z = refl
once false x y z = refl

-- what one write leaves at each site
pub by_write : {T : Type 0} (site : Site) (w : Written T) (old new : Site → Option (Written T)) → Changes (write site w ∷ []) old new → (q : Site) → new q ≡ cond (same_site q site) (Some w) (old q)
unfolding Changes
by_write site w old new h q =
    h q ∙ ap (λ b. cond b (replay (write site w ∷ []) q) (old q)) (or-false (same_site q site))
    ∙ ap (λ k. cond (same_site q site) k (old q)) (replay_one q (write site w)) ∙ once (same_site q site) (Some w) None (old q)

offset_itself : (r c : ℕ) (o : Offset) → ((r == r) && (c == c) && same_offset o o) ≡ true
offset_itself r c o = let p = edge_place r c o in sym (is_same_edge_place p p) ∙ (eq_by_cmp_equiv edge_places_total).refl p

pub target_itself : (target : Target) → same_site (site_of target) (site_of target) ≡ true
target_itself (Target.Cell place) = sym (is_same_spot (spot_of place) (spot_of place)) ∙ (eq_by_cmp_equiv spots_total).refl (spot_of place)
target_itself (Target.Horizontal pos offset) = offset_itself pos.row pos.col offset
target_itself (Target.Vertical pos offset) = offset_itself pos.row pos.col offset

some_there : {A : Type 0} (o : Option A) (x : A) → o ≡ Some x → IsSome o
some_there o x e = ap is_some e

-- a value written over what stood at a target
pub written_over : {T : Type 0} (target : Target) (value : T) (before : Option T) (old new : State T) → option_map sign before ≡ state_at old (site_of target) → Changes (write (site_of target) (sign value) ∷ []) (state_at old) (state_at new) → PutsBackAt (site_of target) before old new
unfolding PutsBackAt
written_over target value before old new was changes = (
  some_there _ (sign value) (at_site (site_of target) ∙ ap (λ b. cond b (Some (sign value)) (state_at old (site_of target))) (target_itself target)),
  λ q. elsewhere q (same_site q (site_of target)) refl,
)
  where
    at_site : (q : Site) → state_at new q ≡ cond (same_site q (site_of target)) (Some (sign value)) (state_at old q)
    at_site q = by_write (site_of target) (sign value) (state_at old) (state_at new) changes q

    elsewhere : (q : Site) (b : Bool) → same_site q (site_of target) ≡ b → state_at old q ≡ cond b (option_map sign before) (state_at new q)
    elsewhere q true e = ap (state_at old) (same_site-eq q (site_of target) e) ∙ sym was
    elsewhere q false e = sym (at_site q ∙ ap (λ b. cond b (Some (sign value)) (state_at old q)) e)

-- what stood there written again, which memory can't be refused for
pub value_back : {A E T : Type 0} (result : Result A E) (site : Site) (before : Option T) (value : T) (old now new : State T) → before ≡ Some value → OnOk result (Changes (write site (sign value) ∷ []) (state_at now) (state_at new)) → OnErr result (state_at now site ≡ None) → PutsBackAt site before old now → new ≡ old
unfolding PutsBackAt
value_back (Ok x) site before value old now new is ok absent puts =
    same_state new old (λ q. by_write site (sign value) (state_at now) (state_at new) ok q
    ∙ ap (λ o. cond (same_site q site) (option_map sign o) (state_at now q)) (sym is) ∙ sym (puts.1 q))
value_back (Err e) site before value old now new is ok absent puts = absurd (let e = ap is_some absent in let is_there = puts.0 in cc)

-- nothing stood there, and what stands is taken
pub nothing_back : {T : Type 0} (site : Site) (before : Option T) (old now new : State T) → before ≡ None → Changes (erase (one_site site) ∷ []) (state_at now) (state_at new) → PutsBackAt site before old now → new ≡ old
unfolding PutsBackAt
nothing_back site before old now new is changes puts =
    same_state new old (λ q. by_erasure (one_site site) (state_at now) (state_at new) changes q
    ∙ ap (λ o. cond (same_site q site) (option_map sign o) (state_at now q)) (sym is) ∙ sym (puts.1 q))

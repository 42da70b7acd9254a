-- The keys of kept maps and their orders.
use Rattle.std.specs.Prelude.{◌≡◌, ℕ, Bool, true, false, ◌&&◌, ◌==◌, refl}
use Rattle.std.specs.Ordering.{nat_cmp, ordering_then, is_eq, eq_by_cmp}
use Rattle.std.specs.declared.cmp.Ordering.{Ordering}
use Rattle.std.specs.declared.cmp.Ordering.TheVariants.{Less, Equal, Greater}
use Rattle.std.specs.Cmp.{IsTotalOrder, unsigned_tied, tied_then}
use Rattle.std.specs.FinMap.{IsAntisymmetric}
use Rattle.std.proofs.Common.{sym, ap, ◌∙◌}
use Rattle.std.proofs.lemmas.Bool.{eqb-true, and_parts}
use Rattle.tabled_places.specs.declared.keys.EdgePlace.{EdgePlace}
use Rattle.tabled_object.specs.declared.offset.Offset.{Offset}
use Rattle.tabled_places.specs.declared.place.LineOf.{LineOf}
use Rattle.tabled_places.specs.contracts.place.LineOfOrd.TheImpl.{cmp-value as line-cmp-value}
use Rattle.tabled_places.specs.contracts.place.LineOfOrd.TheImpl.Laws as line
use Rattle.tabled_places.specs.contracts.site.SpotOrd.TheImpl.{cmp-value as spot-cmp-value}
use Rattle.tabled_places.specs.contracts.site.SpotOrd.TheImpl.Laws as spot
use Rattle.tabled_places.specs.contracts.keys.EdgePlaceOrd.TheImpl.{cmp-value as edge_place-cmp-value}
use Rattle.tabled_places.specs.contracts.keys.EdgePlaceOrd.TheImpl.Laws as place
use Rattle.tabled_places.specs.Site.{Direction, Horizontal, Vertical, Spot, Edge, Crossing, same_direction, same_line, same_spot, same_offset}

-- as the types are ordered: by their variants, and then by their fields
abbrev pub line_cmp : LineOf → LineOf → Ordering
line_cmp = line-cmp-value.it

abbrev pub spot_cmp : Spot → Spot → Ordering
spot_cmp = spot-cmp-value.it

abbrev pub edge_place_cmp : EdgePlace → EdgePlace → Ordering
edge_place_cmp = edge_place-cmp-value.it

pub lines_total : IsTotalOrder line_cmp
lines_total = line.total-law

pub spots_total : IsTotalOrder spot_cmp
spots_total = spot.total-law

pub edge_places_total : IsTotalOrder edge_place_cmp
edge_places_total = place.total-law

pub is_same_line : (l m : LineOf) → eq_by_cmp line_cmp l m ≡ same_line l m
is_same_line (LineOf.Horizontal n) (LineOf.Horizontal m) = unsigned_tied n m
is_same_line (LineOf.Vertical n) (LineOf.Vertical m) = unsigned_tied n m
is_same_line l m = refl

two_same : (r c s k : ℕ) → is_eq (ordering_then (nat_cmp r s) (nat_cmp c k)) ≡ ((r == s) && (c == k))
two_same r c s k = sym (tied_then (nat_cmp r s) (nat_cmp c k)) ∙ (λ i. unsigned_tied r s i && unsigned_tied c k i)

pub is_same_spot : (a b : Spot) → eq_by_cmp spot_cmp a b ≡ same_spot a b
is_same_spot (Edge Horizontal r c) (Edge Horizontal s k) = two_same r c s k
is_same_spot (Edge Vertical r c) (Edge Vertical s k) = two_same r c s k
is_same_spot (Crossing r c) (Crossing s k) = two_same r c s k
is_same_spot a b = refl

pub is_same_edge_place : (p q : EdgePlace) → eq_by_cmp edge_place_cmp p q ≡ ((p.row == q.row) && (p.col == q.col) && same_offset p.offset q.offset)
is_same_edge_place p q = each p.row p.col p.offset q.row q.col q.offset
  where
    and_assoc : (a b c : Bool) → (a && (b && c)) ≡ (a && b && c)
    and_assoc true b c = refl
    and_assoc false b c = refl

    three : (r c s k : ℕ) (o : Ordering) (b : Bool) → is_eq o ≡ b → is_eq (ordering_then (nat_cmp r s) (ordering_then (nat_cmp c k) o)) ≡ ((r == s) && (c == k) && b)
    three r c s k o b e =
        sym (tied_then (nat_cmp r s) (ordering_then (nat_cmp c k) o)) ∙ ap (λ x. is_eq (nat_cmp r s) && x) (sym (tied_then (nat_cmp c k) o))
        ∙ (λ i. unsigned_tied r s i && (unsigned_tied c k i && e i)) ∙ and_assoc (r == s) (c == k) b

    each : (r c : ℕ) (o : Offset) (s k : ℕ) (u : Offset) → eq_by_cmp edge_place_cmp (record { row = r; col = c; offset = o }) (record { row = s; col = k; offset = u }) ≡ ((r == s) && (c == k) && same_offset o u)
    each r c (Offset.Start n) s k (Offset.Start m) = three r c s k (nat_cmp n m) (n == m) (unsigned_tied n m)
    each r c (Offset.End n) s k (Offset.End m) = three r c s k (nat_cmp n m) (n == m) (unsigned_tied n m)
    each r c (Offset.Start n) s k (Offset.End m) = three r c s k Less false refl
    each r c (Offset.End n) s k (Offset.Start m) = three r c s k Greater false refl

pub same_direction-eq : (d e : Direction) → same_direction d e ≡ true → d ≡ e
same_direction-eq Horizontal Vertical h = cc
same_direction-eq Vertical Horizontal h = cc
same_direction-eq d e h = refl

pub same_line-eq : (l m : LineOf) → same_line l m ≡ true → l ≡ m
same_line-eq (LineOf.Horizontal n) (LineOf.Horizontal m) h = let e = eqb-true n m h in cc
same_line-eq (LineOf.Vertical n) (LineOf.Vertical m) h = let e = eqb-true n m h in cc
same_line-eq l m h = cc

pub same_spot-eq : (a b : Spot) → same_spot a b ≡ true → a ≡ b
same_spot-eq (Edge d r c) (Edge e s k) h =
    let parts = and_parts (same_direction d e && (r == s)) (c == k) h in
    let front = and_parts (same_direction d e) (r == s) parts.0 in
    let direction = same_direction-eq d e front.0 in
    let row = eqb-true r s front.1 in
    let col = eqb-true c k parts.1 in
    cc
same_spot-eq (Crossing r c) (Crossing s k) h =
    let parts = and_parts (r == s) (c == k) h in
    let row = eqb-true r s parts.0 in
    let col = eqb-true c k parts.1 in
    cc
same_spot-eq a b h = cc

pub same_offset-eq : (o p : Offset) → same_offset o p ≡ true → o ≡ p
same_offset-eq (Offset.Start n) (Offset.Start m) h = let e = eqb-true n m h in cc
same_offset-eq (Offset.End n) (Offset.End m) h = let e = eqb-true n m h in cc
same_offset-eq o p h = cc

alike : (o : Ordering) → o ≡ Equal → is_eq o ≡ true
alike o e = ap is_eq e

pub exact_lines : IsAntisymmetric line_cmp
exact_lines l m h = same_line-eq l m (sym (is_same_line l m) ∙ alike (line_cmp l m) h)

pub exact_spots : IsAntisymmetric spot_cmp
exact_spots a b h = same_spot-eq a b (sym (is_same_spot a b) ∙ alike (spot_cmp a b) h)

pub exact_edge_places : IsAntisymmetric edge_place_cmp
exact_edge_places p q h =
    let all = and_parts ((p.row == q.row) && (p.col == q.col)) (same_offset p.offset q.offset) (sym (is_same_edge_place p q) ∙ alike (edge_place_cmp p q) h) in
    let front = and_parts (p.row == q.row) (p.col == q.col) all.0 in
    λ i. record { row = eqb-true p.row q.row front.0 i; col = eqb-true p.col q.col front.1 i; offset = same_offset-eq p.offset q.offset all.1 i }

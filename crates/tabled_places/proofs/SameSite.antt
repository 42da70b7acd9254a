-- Sites that the test calls one are equal.
use Rattle.std.proofs.Common.{◌≡◌, true, ◌&&◌, ◌==◌, refl}
use Rattle.std.proofs.lemmas.Bool.{eqb-true, and_parts}
use Rattle.tabled_places.specs.Site.{Rank, first, inner, last, Class, edges, crossings, Part, mark, main_edges, meeting, Site, the_default, of_class, of_line, at_spot, at_offset, same_direction, same_offset, same_rank, same_class, same_line, same_part, same_site}
use Rattle.tabled_places.specs.Keys.{same_direction-eq, same_line-eq, same_spot-eq, same_offset-eq}

same_rank-eq : (n m : Rank) → same_rank n m ≡ true → n ≡ m
same_rank-eq first first h = refl
same_rank-eq inner inner h = refl
same_rank-eq last last h = refl
same_rank-eq n m h = cc

pub same_class-eq : (a b : Class) → same_class a b ≡ true → a ≡ b
same_class-eq (edges d n) (edges e m) h =
    let parts = and_parts (same_direction d e) (same_rank n m) h in
    let direction = same_direction-eq d e parts.0 in
    let rank = same_rank-eq n m parts.1 in
    cc
same_class-eq (crossings r c) (crossings s d) h =
    let parts = and_parts (same_rank r s) (same_rank c d) h in
    let row = same_rank-eq r s parts.0 in
    let col = same_rank-eq c d parts.1 in
    cc
same_class-eq a b h = cc

pub same_part-eq : (p q : Part) → same_part p q ≡ true → p ≡ q
same_part-eq mark mark h = refl
same_part-eq main_edges main_edges h = refl
same_part-eq (meeting n) (meeting m) h = let e = same_rank-eq n m h in cc
same_part-eq p q h = cc

pub same_site-eq : (p q : Site) → same_site p q ≡ true → p ≡ q
same_site-eq the_default the_default h = refl
same_site-eq (of_class a) (of_class b) h = let e = same_class-eq a b h in cc
same_site-eq (of_line l p) (of_line m q) h =
    let parts = and_parts (same_line l m) (same_part p q) h in
    let line = same_line-eq l m parts.0 in
    let part = same_part-eq p q parts.1 in
    cc
same_site-eq (at_spot a) (at_spot b) h = let e = same_spot-eq a b h in cc
same_site-eq (at_offset d r c o) (at_offset e s k p) h =
    let last = and_parts (same_direction d e && (r == s) && (c == k)) (same_offset o p) h in
    let third = and_parts (same_direction d e && (r == s)) (c == k) last.0 in
    let front = and_parts (same_direction d e) (r == s) third.0 in
    let direction = same_direction-eq d e front.0 in
    let row = eqb-true r s front.1 in
    let col = eqb-true c k third.1 in
    let offset = same_offset-eq o p last.1 in
    cc
same_site-eq p q h = cc

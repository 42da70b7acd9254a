-- What each writing call changes, by the events that it stands for.
use Rattle.std.proofs.Common.{◌≡◌, ℕ, Bool, true, false, cond, ◌&&◌, ◌||◌, ◌==◌, Option, Some, None, [], ◌∷◌, refl, sym, ap, ◌∙◌, option_and_then, option_map, nat_cmp, Ordering, eqb-true}
use Rattle.std.specs.Cmp.{IsTotalOrder, nat_cmp_total, unsigned_tied}
use Rattle.std.specs.Ordering.{eq_by_cmp}
use Rattle.std.specs.FinMap as map
use Rattle.tabled_places.specs.declared.borders.Borders.{Borders}
use Rattle.tabled_places.specs.declared.lines.HorizontalLine.{HorizontalLine}
use Rattle.tabled_places.specs.declared.lines.VerticalLine.{VerticalLine}
use Rattle.tabled_places.specs.declared.place.LineOf.{LineOf}
use Rattle.tabled_places.specs.declared.keys.EdgePlace.{EdgePlace}
use Rattle.tabled_places.specs.Keys.{spot_cmp, edge_place_cmp, spots_total, edge_places_total, is_same_spot, is_same_edge_place}
use Rattle.tabled_object.specs.declared.offset.Offset.{Offset}
use Rattle.tabled_places.specs.Site.{Horizontal, Vertical, Spot, Class, Site, the_default, of_class, of_line, at_spot, at_offset, level, same_site, same_spot, same_offset}
use Rattle.tabled_places.specs.Event.{Written, sign, Region, level_sites, offset_sites, line_sites, one_site, within, write, erase, covered, replay, Shows, Changes}
use Rattle.tabled_places.specs.Lines.{horizontal_line_set, vertical_line_set}
use Rattle.tabled_places.specs.State.{State, state_at, HasNothing, classes, class_writes, class_record_set, edge_place, horizontal_part, vertical_part}
use Rattle.tabled_places.proofs.Replay.{replay-nil, replay_one, replay_cleared}
use Rattle.tabled_places.proofs.ClassWrites.{replay_classes, uncovered_other}
use Rattle.tabled_places.proofs.LineWrites.{replay-horizontal_line_set, replay-vertical_line_set, covered-horizontal_line_set, covered-vertical_line_set, number_sym}
use mathlib.Core.Bool.{or-false}

twice : {A : Type 0} (b : Bool) (x y z : A) → cond b x z ≡ cond b (cond b x y) z
twice true x y z = refl
twice false x y z = refl

-- one write, site by site
one_write : {T : Type 0} (site : Site) (w : Written T) (old new : Site → Option (Written T)) → ((q : Site) → new q ≡ cond (same_site q site) (Some w) (old q)) → Changes (write site w ∷ []) old new
unfolding Changes
one_write site w old new h q =
    h q ∙ twice (same_site q site) (Some w) None (old q) ∙ ap (λ k. cond (same_site q site) k (old q)) (sym (replay_one q (write site w)))
    ∙ ap (λ b. cond b (replay (write site w ∷ []) q) (old q)) (sym (or-false (same_site q site)))

-- one erasure
pub one_erasure : {T : Type 0} (region : Region) (old new : Site → Option (Written T)) → ((q : Site) → new q ≡ cond (within region q) None (old q)) → Changes (erase region ∷ []) old new
unfolding Changes
one_erasure region old new h q =
    h q ∙ ap (λ k. cond (within region q) k (old q)) (sym (replay_cleared region [] q ∙ replay-nil q))
    ∙ ap (λ b. cond b (replay (erase region ∷ []) q) (old q)) (sym (or-false (within region q)))

either_way : {A : Type 0} (b c : Bool) (x y : A) → cond b x (cond c x y) ≡ cond (b || c) x y
either_way true c x y = refl
either_way false c x y = refl

-- two erasures
two_erasures : {T : Type 0} (one other : Region) (old new : Site → Option (Written T)) → ((q : Site) → new q ≡ cond (within one q) None (cond (within other q) None (old q))) → Changes (erase one ∷ erase other ∷ []) old new
unfolding Changes
two_erasures one other old new h q =
    h q ∙ either_way (within one q) (within other q) None (old q)
    ∙ ap (λ b. cond (within one q || b) None (old q)) (sym (or-false (within other q)))
    ∙ ap (λ k. cond (within one q || (within other q || false)) k (old q)) (sym (replay_cleared one (erase other ∷ []) q ∙ replay_cleared other [] q ∙ replay-nil q))

signs_put : {T : Type 0} (b : Bool) (x : T) (o : Option T) → option_map sign (cond b (Some x) o) ≡ cond b (Some (sign x)) (option_map sign o)
signs_put true x o = refl
signs_put false x o = refl

signs_taken : {T : Type 0} (b : Bool) (o : Option T) → option_map sign (cond b None o) ≡ cond b None (option_map sign o)
signs_taken true o = refl
signs_taken false o = refl

-- a value put under a key, a value taken there, and none left
key_put : {K T : Type 0} {R : K → K → Ordering} → IsTotalOrder R → (values : map.FinMap R T) (k : K) (v : T) (q : K) (same : Bool) → eq_by_cmp R q k ≡ same → option_map sign (map.get (map.insert values k v) q) ≡ cond same (Some (sign v)) (option_map sign (map.get values q))
key_put total values k v q same e =
    ap (option_map sign) (map.get-insert total values k v q ∙ ap (λ b. cond b (Some v) (map.get values q)) e) ∙ signs_put same v (map.get values q)

key_taken : {K T : Type 0} {R : K → K → Ordering} → IsTotalOrder R → (values : map.FinMap R T) (k q : K) (same : Bool) → eq_by_cmp R q k ≡ same → option_map sign (map.get (map.remove values k) q) ≡ cond same None (option_map sign (map.get values q))
key_taken total values k q same e =
    ap (option_map sign) (map.get-remove total values k q ∙ ap (λ b. cond b None (map.get values q)) e) ∙ signs_taken same (map.get values q)

nothing_left : {K T : Type 0} (R : K → K → Ordering) (q : K) → option_map sign (map.get (map.empty {X = T} {R = R}) q) ≡ None
nothing_left {T = T} R q = ap (option_map sign) (map.get-empty {X = T} R q)

-- a part of a custom line that is put under its index, and taken there
part_put : {L W : Type 0} (part : L → Option W) (values : map.FinMap nat_cmp L) (m : ℕ) (line : L) (n : ℕ) → option_and_then part (map.get (map.insert values m line) n) ≡ cond (n == m) (part line) (option_and_then part (map.get values n))
part_put part values m line n =
    ap (option_and_then part) (map.get-insert nat_cmp_total values m line n ∙ ap (λ b. cond b (Some line) (map.get values n)) (unsigned_tied n m)) ∙ through (n == m)
  where
    through : (b : Bool) → option_and_then part (cond b (Some line) (map.get values n)) ≡ cond b (part line) (option_and_then part (map.get values n))
    through true = refl
    through false = refl

part_taken : {L W : Type 0} (part : L → Option W) (values : map.FinMap nat_cmp L) (m n : ℕ) → option_and_then part (map.get (map.remove values m) n) ≡ cond (m == n) None (option_and_then part (map.get values n))
part_taken part values m n =
    ap (option_and_then part) (map.get-remove nat_cmp_total values m n ∙ ap (λ b. cond b None (map.get values n)) (unsigned_tied n m ∙ number_sym n m)) ∙ through (m == n)
  where
    through : (b : Bool) → option_and_then part (cond b None (map.get values n)) ≡ cond b None (option_and_then part (map.get values n))
    through true = refl
    through false = refl

-- one that is put where its index is the site's, and nowhere else
line_put : {T : Type 0} (b c : Bool) (k w old : Option (Written T)) → b ≡ c → (b ≡ true → k ≡ w) → cond b w old ≡ cond c k old
line_put true true k w old e h = sym (h refl)
line_put false false k w old e h = refl
line_put b c k w old e h = absurd cc

default_set_sites : {T : Type 0} (k : State T) (v : T) (q : Site) → state_at (record k { default_value = Some v }) q ≡ cond (same_site q (the_default)) (Some (sign v)) (state_at k q)
default_set_sites k v the_default = refl
default_set_sites k v (at_offset Horizontal r c o) = refl
default_set_sites k v q = refl

-- the default written
pub default_set : {T : Type 0} (k : State T) (v : T) → Changes (write (the_default) (sign v) ∷ []) (state_at k) (state_at (record k { default_value = Some v }))
default_set k v = one_write (the_default) (sign v) (state_at k) (state_at (record k { default_value = Some v })) (default_set_sites k v)

default_erased_sites : {T : Type 0} (k : State T) (q : Site) → state_at (record k { default_value = None }) q ≡ cond (within (level_sites 0) q) None (state_at k q)
default_erased_sites k (of_line (LineOf.Vertical n) p) = refl
default_erased_sites k (at_offset Horizontal r c (Offset.Start n)) = refl
default_erased_sites k (at_offset Vertical r c (Offset.Start n)) = refl
default_erased_sites k q = refl

-- the default erased
pub default_erased : {T : Type 0} (k : State T) → Changes (erase (level_sites 0) ∷ []) (state_at k) (state_at (record k { default_value = None }))
default_erased k = one_erasure (level_sites 0) (state_at k) (state_at (record k { default_value = None })) (default_erased_sites k)

lines_erased_sites : {T : Type 0} (k : State T) (q : Site) → state_at (record k { vertical_lines = map.empty; horizontal_lines = map.empty }) q ≡ cond (within (level_sites 2) q) None (cond (within (level_sites 3) q) None (state_at k q))
lines_erased_sites k (of_line (LineOf.Vertical n) p) = ap (option_and_then (vertical_part p)) (map.get-empty nat_cmp n)
lines_erased_sites k (of_line (LineOf.Horizontal n) p) = ap (option_and_then (horizontal_part p)) (map.get-empty nat_cmp n)
lines_erased_sites k (at_offset Horizontal r c (Offset.Start n)) = refl
lines_erased_sites k (at_offset Vertical r c (Offset.Start n)) = refl
lines_erased_sites k q = refl

-- all custom lines erased
pub lines_erased : {T : Type 0} (k : State T) → Changes (erase (level_sites 2) ∷ erase (level_sites 3) ∷ []) (state_at k) (state_at (record k { vertical_lines = map.empty; horizontal_lines = map.empty }))
lines_erased k = two_erasures (level_sites 2) (level_sites 3) (state_at k) (state_at (record k { vertical_lines = map.empty; horizontal_lines = map.empty })) (lines_erased_sites k)

vertical_line_taken_sites : {T : Type 0} (k : State T) (m : ℕ) (q : Site) → state_at (record k { vertical_lines = map.remove k.vertical_lines m }) q ≡ cond (within (line_sites (LineOf.Vertical m)) q) None (state_at k q)
vertical_line_taken_sites k m (of_line (LineOf.Vertical n) p) = part_taken (vertical_part p) k.vertical_lines m n
vertical_line_taken_sites k m (at_offset Horizontal r c o) = refl
vertical_line_taken_sites k m q = refl

-- a custom vertical line removed
pub vertical_line_taken : {T : Type 0} (k : State T) (m : ℕ) → Changes (erase (line_sites (LineOf.Vertical m)) ∷ []) (state_at k) (state_at (record k { vertical_lines = map.remove k.vertical_lines m }))
vertical_line_taken k m = one_erasure (line_sites (LineOf.Vertical m)) (state_at k) (state_at (record k { vertical_lines = map.remove k.vertical_lines m })) (vertical_line_taken_sites k m)

horizontal_line_taken_sites : {T : Type 0} (k : State T) (m : ℕ) (q : Site) → state_at (record k { horizontal_lines = map.remove k.horizontal_lines m }) q ≡ cond (within (line_sites (LineOf.Horizontal m)) q) None (state_at k q)
horizontal_line_taken_sites k m (of_line (LineOf.Horizontal n) p) = part_taken (horizontal_part p) k.horizontal_lines m n
horizontal_line_taken_sites k m (at_offset Horizontal r c o) = refl
horizontal_line_taken_sites k m q = refl

-- a custom horizontal line removed
pub horizontal_line_taken : {T : Type 0} (k : State T) (m : ℕ) → Changes (erase (line_sites (LineOf.Horizontal m)) ∷ []) (state_at k) (state_at (record k { horizontal_lines = map.remove k.horizontal_lines m }))
horizontal_line_taken k m = one_erasure (line_sites (LineOf.Horizontal m)) (state_at k) (state_at (record k { horizontal_lines = map.remove k.horizontal_lines m })) (horizontal_line_taken_sites k m)

cell_set_sites : {T : Type 0} (k : State T) (at : Spot) (v : T) (q : Site) → state_at (record k { cells = map.insert k.cells at v }) q ≡ cond (same_site q (at_spot at)) (Some (sign v)) (state_at k q)
cell_set_sites k at v (at_spot spot) = key_put spots_total k.cells at v spot (same_spot spot at) (is_same_spot spot at)
cell_set_sites k at v (at_offset Horizontal r c o) = refl
cell_set_sites k at v q = refl

-- a value written at an edge or a crossing
pub cell_set : {T : Type 0} (k : State T) (at : Spot) (v : T) → Changes (write (at_spot at) (sign v) ∷ []) (state_at k) (state_at (record k { cells = map.insert k.cells at v }))
cell_set k at v = one_write (at_spot at) (sign v) (state_at k) (state_at (record k { cells = map.insert k.cells at v })) (cell_set_sites k at v)

cell_erased_sites : {T : Type 0} (k : State T) (at : Spot) (q : Site) → state_at (record k { cells = map.remove k.cells at }) q ≡ cond (within (one_site (at_spot at)) q) None (state_at k q)
cell_erased_sites k at (at_spot spot) = key_taken spots_total k.cells at spot (same_spot spot at) (is_same_spot spot at)
cell_erased_sites k at (at_offset Horizontal r c o) = refl
cell_erased_sites k at q = refl

-- a value erased there
pub cell_erased : {T : Type 0} (k : State T) (at : Spot) → Changes (erase (one_site (at_spot at)) ∷ []) (state_at k) (state_at (record k { cells = map.remove k.cells at }))
cell_erased k at = one_erasure (one_site (at_spot at)) (state_at k) (state_at (record k { cells = map.remove k.cells at })) (cell_erased_sites k at)

cells_erased_sites : {T : Type 0} (k : State T) (q : Site) → state_at (record k { cells = map.empty }) q ≡ cond (within (level_sites 4) q) None (state_at k q)
cells_erased_sites k (at_spot spot) = nothing_left spot_cmp spot
cells_erased_sites k (of_line (LineOf.Vertical n) p) = refl
cells_erased_sites k (at_offset Horizontal r c (Offset.Start n)) = refl
cells_erased_sites k (at_offset Vertical r c (Offset.Start n)) = refl
cells_erased_sites k q = refl

-- the whole cell level erased
pub cells_erased : {T : Type 0} (k : State T) → Changes (erase (level_sites 4) ∷ []) (state_at k) (state_at (record k { cells = map.empty }))
cells_erased k = one_erasure (level_sites 4) (state_at k) (state_at (record k { cells = map.empty })) (cells_erased_sites k)

horizontal_offset_set_sites : {T : Type 0} (k : State T) (at : EdgePlace) (v : T) (q : Site) → state_at (record k { horizontal_offsets = map.insert k.horizontal_offsets at v }) q ≡ cond (same_site q (at_offset Horizontal at.row at.col at.offset)) (Some (sign v)) (state_at k q)
horizontal_offset_set_sites k at v (at_offset Horizontal r c o) = key_put edge_places_total k.horizontal_offsets at v (edge_place r c o) ((r == at.row) && (c == at.col) && same_offset o at.offset) (is_same_edge_place (edge_place r c o) at)
horizontal_offset_set_sites k at v q = refl

-- an offset written on an edge of a horizontal line
pub horizontal_offset_set : {T : Type 0} (k : State T) (at : EdgePlace) (v : T) → Changes (write (at_offset Horizontal at.row at.col at.offset) (sign v) ∷ []) (state_at k) (state_at (record k { horizontal_offsets = map.insert k.horizontal_offsets at v }))
horizontal_offset_set k at v = one_write (at_offset Horizontal at.row at.col at.offset) (sign v) (state_at k) (state_at (record k { horizontal_offsets = map.insert k.horizontal_offsets at v })) (horizontal_offset_set_sites k at v)

horizontal_offset_erased_sites : {T : Type 0} (k : State T) (at : EdgePlace) (q : Site) → state_at (record k { horizontal_offsets = map.remove k.horizontal_offsets at }) q ≡ cond (within (one_site (at_offset Horizontal at.row at.col at.offset)) q) None (state_at k q)
horizontal_offset_erased_sites k at (at_offset Horizontal r c o) = key_taken edge_places_total k.horizontal_offsets at (edge_place r c o) ((r == at.row) && (c == at.col) && same_offset o at.offset) (is_same_edge_place (edge_place r c o) at)
horizontal_offset_erased_sites k at q = refl

-- and erased there
pub horizontal_offset_erased : {T : Type 0} (k : State T) (at : EdgePlace) → Changes (erase (one_site (at_offset Horizontal at.row at.col at.offset)) ∷ []) (state_at k) (state_at (record k { horizontal_offsets = map.remove k.horizontal_offsets at }))
horizontal_offset_erased k at = one_erasure (one_site (at_offset Horizontal at.row at.col at.offset)) (state_at k) (state_at (record k { horizontal_offsets = map.remove k.horizontal_offsets at })) (horizontal_offset_erased_sites k at)

horizontal_offsets_erased_sites : {T : Type 0} (k : State T) (q : Site) → state_at (record k { horizontal_offsets = map.empty }) q ≡ cond (within (offset_sites Horizontal) q) None (state_at k q)
horizontal_offsets_erased_sites k (at_offset Horizontal r c o) = nothing_left edge_place_cmp (edge_place r c o)
horizontal_offsets_erased_sites k q = refl

-- all offsets on the edges of horizontal lines erased
pub horizontal_offsets_erased : {T : Type 0} (k : State T) → Changes (erase (offset_sites Horizontal) ∷ []) (state_at k) (state_at (record k { horizontal_offsets = map.empty }))
horizontal_offsets_erased k = one_erasure (offset_sites Horizontal) (state_at k) (state_at (record k { horizontal_offsets = map.empty })) (horizontal_offsets_erased_sites k)

vertical_offset_set_sites : {T : Type 0} (k : State T) (at : EdgePlace) (v : T) (q : Site) → state_at (record k { vertical_offsets = map.insert k.vertical_offsets at v }) q ≡ cond (same_site q (at_offset Vertical at.row at.col at.offset)) (Some (sign v)) (state_at k q)
vertical_offset_set_sites k at v (at_offset Vertical r c o) = key_put edge_places_total k.vertical_offsets at v (edge_place r c o) ((r == at.row) && (c == at.col) && same_offset o at.offset) (is_same_edge_place (edge_place r c o) at)
vertical_offset_set_sites k at v q = refl

-- an offset written on an edge of a vertical line
pub vertical_offset_set : {T : Type 0} (k : State T) (at : EdgePlace) (v : T) → Changes (write (at_offset Vertical at.row at.col at.offset) (sign v) ∷ []) (state_at k) (state_at (record k { vertical_offsets = map.insert k.vertical_offsets at v }))
vertical_offset_set k at v = one_write (at_offset Vertical at.row at.col at.offset) (sign v) (state_at k) (state_at (record k { vertical_offsets = map.insert k.vertical_offsets at v })) (vertical_offset_set_sites k at v)

vertical_offset_erased_sites : {T : Type 0} (k : State T) (at : EdgePlace) (q : Site) → state_at (record k { vertical_offsets = map.remove k.vertical_offsets at }) q ≡ cond (within (one_site (at_offset Vertical at.row at.col at.offset)) q) None (state_at k q)
vertical_offset_erased_sites k at (at_offset Vertical r c o) = key_taken edge_places_total k.vertical_offsets at (edge_place r c o) ((r == at.row) && (c == at.col) && same_offset o at.offset) (is_same_edge_place (edge_place r c o) at)
vertical_offset_erased_sites k at q = refl

-- and erased there
pub vertical_offset_erased : {T : Type 0} (k : State T) (at : EdgePlace) → Changes (erase (one_site (at_offset Vertical at.row at.col at.offset)) ∷ []) (state_at k) (state_at (record k { vertical_offsets = map.remove k.vertical_offsets at }))
vertical_offset_erased k at = one_erasure (one_site (at_offset Vertical at.row at.col at.offset)) (state_at k) (state_at (record k { vertical_offsets = map.remove k.vertical_offsets at })) (vertical_offset_erased_sites k at)

vertical_offsets_erased_sites : {T : Type 0} (k : State T) (q : Site) → state_at (record k { vertical_offsets = map.empty }) q ≡ cond (within (offset_sites Vertical) q) None (state_at k q)
vertical_offsets_erased_sites k (at_offset Vertical r c o) = nothing_left edge_place_cmp (edge_place r c o)
vertical_offsets_erased_sites k q = refl

-- all offsets on the edges of vertical lines erased
pub vertical_offsets_erased : {T : Type 0} (k : State T) → Changes (erase (offset_sites Vertical) ∷ []) (state_at k) (state_at (record k { vertical_offsets = map.empty }))
vertical_offsets_erased k = one_erasure (offset_sites Vertical) (state_at k) (state_at (record k { vertical_offsets = map.empty })) (vertical_offsets_erased_sites k)

-- a custom vertical line put at its index
pub vertical_line_put : {T : Type 0} (k : State T) (m : ℕ) (line : VerticalLine T) → Changes (vertical_line_set m line) (state_at k) (state_at (record k { vertical_lines = map.insert k.vertical_lines m line }))
unfolding Changes
vertical_line_put k m line (of_line (LineOf.Vertical n) p) =
    part_put (vertical_part p) k.vertical_lines m line n
    ∙ line_put (n == m) (covered (vertical_line_set m line) (of_line (LineOf.Vertical n) p)) (replay (vertical_line_set m line) (of_line (LineOf.Vertical n) p)) (vertical_part p line) (state_at k (of_line (LineOf.Vertical n) p))
    (number_sym n m ∙ sym (covered-vertical_line_set m line (of_line (LineOf.Vertical n) p)))
    (λ e. ap (λ i. replay (vertical_line_set i line) (of_line (LineOf.Vertical n) p)) (sym (eqb-true n m e)) ∙ replay-vertical_line_set n line p)
vertical_line_put k m line (at_offset Horizontal r c o) = sym (ap (λ b. cond b (replay (vertical_line_set m line) (at_offset Horizontal r c o)) (state_at k (at_offset Horizontal r c o))) (covered-vertical_line_set m line (at_offset Horizontal r c o)))
vertical_line_put k m line q = sym (ap (λ b. cond b (replay (vertical_line_set m line) q) (state_at k q)) (covered-vertical_line_set m line q))

-- a custom horizontal line put at its index
pub horizontal_line_put : {T : Type 0} (k : State T) (m : ℕ) (line : HorizontalLine T) → Changes (horizontal_line_set m line) (state_at k) (state_at (record k { horizontal_lines = map.insert k.horizontal_lines m line }))
unfolding Changes
horizontal_line_put k m line (of_line (LineOf.Horizontal n) p) =
    part_put (horizontal_part p) k.horizontal_lines m line n
    ∙ line_put (n == m) (covered (horizontal_line_set m line) (of_line (LineOf.Horizontal n) p)) (replay (horizontal_line_set m line) (of_line (LineOf.Horizontal n) p)) (horizontal_part p line) (state_at k (of_line (LineOf.Horizontal n) p))
    (number_sym n m ∙ sym (covered-horizontal_line_set m line (of_line (LineOf.Horizontal n) p)))
    (λ e. ap (λ i. replay (horizontal_line_set i line) (of_line (LineOf.Horizontal n) p)) (sym (eqb-true n m e)) ∙ replay-horizontal_line_set n line p)
horizontal_line_put k m line (at_offset Horizontal r c o) = sym (ap (λ b. cond b (replay (horizontal_line_set m line) (at_offset Horizontal r c o)) (state_at k (at_offset Horizontal r c o))) (covered-horizontal_line_set m line (at_offset Horizontal r c o)))
horizontal_line_put k m line q = sym (ap (λ b. cond b (replay (horizontal_line_set m line) q) (state_at k q)) (covered-horizontal_line_set m line q))

beside : {T : Type 0} (borders : Borders T) (q : Site) (k : Option (Written T)) → ((d : Class) → same_site q (of_class d) ≡ false) → (level q == 1) ≡ false → k ≡ cond (covered (class_record_set borders) q) (replay (class_record_set borders) q) k
unfolding class_record_set
beside borders q k other no_level =
    sym (ap (λ b. cond b (replay (erase (level_sites 1) ∷ class_writes borders classes) q) k) (ap (λ b. b || covered (class_writes borders classes) q) no_level ∙ uncovered_other borders q other classes))

-- the class record set whole
pub class_put : {T : Type 0} (k : State T) (borders : Borders T) → Changes (class_record_set borders) (state_at k) (state_at (record k { class_record = borders }))
unfolding Changes class_record_set
class_put k borders (of_class c) = sym (replay_cleared (level_sites 1) (class_writes borders classes) (of_class c) ∙ replay_classes borders c)
class_put k borders (of_line (LineOf.Vertical n) p) = beside borders (of_line (LineOf.Vertical n) p) (state_at k (of_line (LineOf.Vertical n) p)) (λ e. refl) refl
class_put k borders (at_offset Horizontal r c (Offset.Start n)) = beside borders (at_offset Horizontal r c (Offset.Start n)) (state_at k (at_offset Horizontal r c (Offset.Start n))) (λ e. refl) refl
class_put k borders (at_offset Vertical r c (Offset.Start n)) = beside borders (at_offset Vertical r c (Offset.Start n)) (state_at k (at_offset Vertical r c (Offset.Start n))) (λ e. refl) refl
class_put k borders q = beside borders q (state_at k q) (λ e. refl) refl

class_erased_sites : {T : Type 0} (k : State T) (borders : Borders T) → HasNothing borders → (q : Site) → state_at (record k { class_record = borders }) q ≡ cond (within (level_sites 1) q) None (state_at k q)
class_erased_sites k borders h (of_class c) = ap (option_map sign) (h c)
class_erased_sites k borders h (of_line (LineOf.Vertical n) p) = refl
class_erased_sites k borders h (at_offset Horizontal r c (Offset.Start n)) = refl
class_erased_sites k borders h (at_offset Vertical r c (Offset.Start n)) = refl
class_erased_sites k borders h q = refl

-- the class record cleared
pub class_erased : {T : Type 0} (k : State T) (borders : Borders T) → HasNothing borders → Changes (erase (level_sites 1) ∷ []) (state_at k) (state_at (record k { class_record = borders }))
class_erased k borders h = one_erasure (level_sites 1) (state_at k) (state_at (record k { class_record = borders })) (class_erased_sites k borders h)

-- a store with nothing in it shows no event
pub nothing_shown : {T : Type 0} (k : State T) → k.default_value ≡ None → HasNothing k.class_record → k.vertical_lines ≡ map.empty → k.horizontal_lines ≡ map.empty → k.cells ≡ map.empty
    → k.horizontal_offsets ≡ map.empty → k.vertical_offsets ≡ map.empty → Shows [] (state_at k)
unfolding Shows
nothing_shown k e h v w x i j the_default = ap (option_map sign) e ∙ sym (replay-nil the_default)
nothing_shown k e h v w x i j (of_class c) = ap (option_map sign) (h c) ∙ sym (replay-nil (of_class c))
nothing_shown k e h v w x i j (of_line (LineOf.Vertical l) p) = ap (λ o. option_and_then (vertical_part p) (map.get o l)) v ∙ ap (option_and_then (vertical_part p)) (map.get-empty nat_cmp l) ∙ sym (replay-nil (of_line (LineOf.Vertical l) p))
nothing_shown k e h v w x i j (of_line (LineOf.Horizontal l) p) = ap (λ o. option_and_then (horizontal_part p) (map.get o l)) w ∙ ap (option_and_then (horizontal_part p)) (map.get-empty nat_cmp l) ∙ sym (replay-nil (of_line (LineOf.Horizontal l) p))
nothing_shown k e h v w x i j (at_spot spot) = ap (λ m. option_map sign (map.get m spot)) x ∙ nothing_left spot_cmp spot ∙ sym (replay-nil (at_spot spot))
nothing_shown k e h v w x i j (at_offset Horizontal r c o) = ap (λ m. option_map sign (map.get m (edge_place r c o))) i ∙ nothing_left edge_place_cmp (edge_place r c o) ∙ sym (replay-nil (at_offset Horizontal r c o))
nothing_shown k e h v w x i j (at_offset Vertical r c o) = ap (λ m. option_map sign (map.get m (edge_place r c o))) j ∙ nothing_left edge_place_cmp (edge_place r c o) ∙ sym (replay-nil (at_offset Vertical r c o))

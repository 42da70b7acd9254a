-- A store shows the writes of all that it keeps.
use Rattle.std.proofs.Common.{◌≡◌, ℕ, false, cond, ◌||◌, Option, Some, None, List, [], ◌∷◌, ◌++◌, refl, sym, ap, ◌∙◌, option_and_then, option_map, Ordering}
use Rattle.std.specs.Ordering.{eq_by_cmp}
use Rattle.std.specs.Cmp.{IsTotalOrder, eq_by_cmp_equiv, unsigned_tied}
use Rattle.std.specs.FinMap as map
use mathlib.Core.Bool.{or-false}
use Rattle.tabled_places.specs.declared.place.LineOf.{LineOf}
use Rattle.tabled_places.specs.Keys.{spots_total, exact_spots, is_same_spot, edge_places_total, exact_edge_places, is_same_edge_place}
use Rattle.tabled_places.specs.Site.{Horizontal, Vertical, Class, Part, Site, the_default, of_class, of_line, at_spot, at_offset, same_site}
use Rattle.tabled_places.specs.Event.{sign, Event, write, line_sites, within, covered, replay, Shows}
use Rattle.tabled_places.specs.Lines.{horizontal_line_set, vertical_line_set}
use Rattle.tabled_places.specs.State.{State, state_at, classes, class_writes, default_writes, entry_events, key_writes, place_site, writes_of, edge_place, horizontal_part, vertical_part}
use Rattle.tabled_places.proofs.Replay.{replay-nil, replay_one}
use Rattle.tabled_places.proofs.ClassWrites.{replay_classes, uncovered_other}
use Rattle.tabled_places.proofs.Blocks.{replay_skip, replay_rest, uncovered_both, uncovered_entries, replay_entries}
use Rattle.tabled_places.proofs.LineWrites.{replay-horizontal_line_set, replay-vertical_line_set, covered-horizontal_line_set, covered-vertical_line_set, number_sym}

-- blocks of events in a row
chain : {T : Type 0} → List (List (Event T)) → List (Event T)
chain [] = []
chain (b ∷ []) = b
chain (b ∷ c ∷ bs) = b ++ chain (c ∷ bs)

abbrev NoneCovers : {T : Type 0} → Site → List (List (Event T)) → Type 0
NoneCovers q [] = Unit {0}
NoneCovers q (b ∷ bs) = (covered b q ≡ false) × NoneCovers q bs

module _ {T : Type 0} (q : Site) where
  chain_uncovered : (bs : List (List (Event T))) → NoneCovers q bs → covered (chain bs) q ≡ false
  unfolding chain
  chain_uncovered [] h = refl
  chain_uncovered (b ∷ []) h = h.0
  chain_uncovered (b ∷ c ∷ bs) h = uncovered_both q b (chain (c ∷ bs)) h.0 (chain_uncovered (c ∷ bs) h.1)

  -- of blocks of which one alone covers the site, that one counts
  only_block : (before : List (List (Event T))) (b : List (Event T)) (after : List (List (Event T))) → NoneCovers q before → NoneCovers q after → replay (chain (before ++ b ∷ after)) q ≡ replay b q
  unfolding chain
  only_block [] b [] h g = refl
  only_block [] b (c ∷ after) h g = replay_rest q b (chain (c ∷ after)) (chain_uncovered (c ∷ after) g)
  only_block (d ∷ []) b after h g = replay_skip q d (chain (b ∷ after)) h.0 ∙ only_block [] b after tt g
  only_block (d ∷ e ∷ before) b after h g = replay_skip q d (chain (e ∷ before ++ b ∷ after)) h.0 ∙ only_block (e ∷ before) b after h.1 g

module _ {T : Type 0} (state : State T) (q : Site) where
  no_default : ((x : T) → same_site q the_default ≡ false) → covered (default_writes state.default_value) q ≡ false
  no_default h = by_value state.default_value
    where
      by_value : (o : Option T) → covered (default_writes o) q ≡ false
      by_value None = refl
      by_value (Some x) = ap (λ b. b || false) (h x)

  no_class : ((d : Class) → same_site q (of_class d) ≡ false) → covered (class_writes state.class_record classes) q ≡ false
  no_class h = uncovered_other state.class_record q h classes

  no_vertical : ((n : ℕ) → within (line_sites (LineOf.Vertical n)) q ≡ false) → covered (entry_events vertical_line_set (map.entries state.vertical_lines)) q ≡ false
  no_vertical h = uncovered_entries q vertical_line_set (λ n line. covered-vertical_line_set n line q ∙ h n) (map.entries state.vertical_lines)

  no_horizontal : ((n : ℕ) → within (line_sites (LineOf.Horizontal n)) q ≡ false) → covered (entry_events horizontal_line_set (map.entries state.horizontal_lines)) q ≡ false
  no_horizontal h = uncovered_entries q horizontal_line_set (λ n line. covered-horizontal_line_set n line q ∙ h n) (map.entries state.horizontal_lines)

no_key : {K T : Type 0} {R : K → K → Ordering} (site : K → Site) (values : map.FinMap R T) (q : Site) → ((k : K) → same_site q (site k) ≡ false) → covered (key_writes site values) q ≡ false
no_key site values q h = uncovered_entries q (λ k x. write (site k) (sign x) ∷ []) (λ k x. ap (λ b. b || false) (h k)) (map.entries values)

replay-default_writes : {T : Type 0} (o : Option T) → replay (default_writes o) the_default ≡ option_map sign o
replay-default_writes None = replay-nil the_default
replay-default_writes (Some x) = replay_one the_default (write the_default (sign x))

as_signs : {T : Type 0} (o : Option T) → option_and_then (λ x. Some (sign x)) o ≡ option_map sign o
as_signs None = refl
as_signs (Some x) = refl

-- what the writes of the values under keys leave at the site of one of them
replay_key : {K T : Type 0} {R : K → K → Ordering} → IsTotalOrder R → map.IsAntisymmetric R → (site : K → Site) (values : map.FinMap R T) (k : K) → ((j : K) → same_site (site k) (site j) ≡ eq_by_cmp R k j) → replay (key_writes site values) (site k) ≡ option_map sign (map.get values k)
replay_key {R = R} total exact site values k same =
    replay_entries (site k) exact (λ j x. write (site j) (sign x) ∷ []) k (λ x. Some (sign x))
    (λ j x. or-false (same_site (site k) (site j)) ∙ same j)
    (λ x. replay_one (site k) (write (site k) (sign x)) ∙ ap (λ b. cond b (Some (sign x)) None) (same k ∙ (eq_by_cmp_equiv total).refl k))
    (map.entries values)
    ∙ as_signs (map.find R k (map.entries values)) ∙ ap (option_map sign) (sym (map.get-entries values k))

module _ {T : Type 0} (state : State T) where
  replay_vertical : (n : ℕ) (p : Part) → replay (entry_events vertical_line_set (map.entries state.vertical_lines)) (of_line (LineOf.Vertical n) p) ≡ state_at state (of_line (LineOf.Vertical n) p)
  replay_vertical n p =
      replay_entries (of_line (LineOf.Vertical n) p) map.nat_cmp-IsAntisymmetric vertical_line_set n (vertical_part p)
      (λ m line. covered-vertical_line_set m line (of_line (LineOf.Vertical n) p) ∙ number_sym m n ∙ sym (unsigned_tied n m))
      (λ line. replay-vertical_line_set n line p) (map.entries state.vertical_lines)
      ∙ ap (option_and_then (vertical_part p)) (sym (map.get-entries state.vertical_lines n))

  replay_horizontal : (n : ℕ) (p : Part) → replay (entry_events horizontal_line_set (map.entries state.horizontal_lines)) (of_line (LineOf.Horizontal n) p) ≡ state_at state (of_line (LineOf.Horizontal n) p)
  replay_horizontal n p =
      replay_entries (of_line (LineOf.Horizontal n) p) map.nat_cmp-IsAntisymmetric horizontal_line_set n (horizontal_part p)
      (λ m line. covered-horizontal_line_set m line (of_line (LineOf.Horizontal n) p) ∙ number_sym m n ∙ sym (unsigned_tied n m))
      (λ line. replay-horizontal_line_set n line p) (map.entries state.horizontal_lines)
      ∙ ap (option_and_then (horizontal_part p)) (sym (map.get-entries state.horizontal_lines n))

-- a store shows the writes of all that it keeps
pub Shows-writes_of : {T : Type 0} (state : State T) → Shows (writes_of state) (state_at state)
unfolding Shows writes_of chain
Shows-writes_of state the_default = sym (only_block the_default ([]) (default_writes state.default_value) (class_writes state.class_record classes ∷ entry_events vertical_line_set (map.entries state.vertical_lines) ∷ entry_events horizontal_line_set (map.entries state.horizontal_lines) ∷ key_writes at_spot state.cells ∷ key_writes (place_site Horizontal) state.horizontal_offsets ∷ key_writes (place_site Vertical) state.vertical_offsets ∷ [])
    tt
    (no_class state the_default (λ d. refl), (no_vertical state the_default (λ n. refl), (no_horizontal state the_default (λ n. refl), (no_key at_spot state.cells the_default (λ p. refl), (no_key (place_site Horizontal) state.horizontal_offsets the_default (λ p. refl), (no_key (place_site Vertical) state.vertical_offsets the_default (λ p. refl), tt))))))
    ∙ replay-default_writes state.default_value)
Shows-writes_of state (of_class c) = sym (only_block (of_class c) (default_writes state.default_value ∷ []) (class_writes state.class_record classes) (entry_events vertical_line_set (map.entries state.vertical_lines) ∷ entry_events horizontal_line_set (map.entries state.horizontal_lines) ∷ key_writes at_spot state.cells ∷ key_writes (place_site Horizontal) state.horizontal_offsets ∷ key_writes (place_site Vertical) state.vertical_offsets ∷ [])
    (no_default state (of_class c) (λ x. refl), tt)
    (no_vertical state (of_class c) (λ n. refl), (no_horizontal state (of_class c) (λ n. refl), (no_key at_spot state.cells (of_class c) (λ p. refl), (no_key (place_site Horizontal) state.horizontal_offsets (of_class c) (λ p. refl), (no_key (place_site Vertical) state.vertical_offsets (of_class c) (λ p. refl), tt)))))
    ∙ replay_classes state.class_record c)
Shows-writes_of state (of_line (LineOf.Vertical n) p) = sym (only_block (of_line (LineOf.Vertical n) p) (default_writes state.default_value ∷ class_writes state.class_record classes ∷ []) (entry_events vertical_line_set (map.entries state.vertical_lines)) (entry_events horizontal_line_set (map.entries state.horizontal_lines) ∷ key_writes at_spot state.cells ∷ key_writes (place_site Horizontal) state.horizontal_offsets ∷ key_writes (place_site Vertical) state.vertical_offsets ∷ [])
    (no_default state (of_line (LineOf.Vertical n) p) (λ x. refl), (no_class state (of_line (LineOf.Vertical n) p) (λ d. refl), tt))
    (no_horizontal state (of_line (LineOf.Vertical n) p) (λ n. refl), (no_key at_spot state.cells (of_line (LineOf.Vertical n) p) (λ p. refl), (no_key (place_site Horizontal) state.horizontal_offsets (of_line (LineOf.Vertical n) p) (λ p. refl), (no_key (place_site Vertical) state.vertical_offsets (of_line (LineOf.Vertical n) p) (λ p. refl), tt))))
    ∙ replay_vertical state n p)
Shows-writes_of state (of_line (LineOf.Horizontal n) p) = sym (only_block (of_line (LineOf.Horizontal n) p) (default_writes state.default_value ∷ class_writes state.class_record classes ∷ entry_events vertical_line_set (map.entries state.vertical_lines) ∷ []) (entry_events horizontal_line_set (map.entries state.horizontal_lines)) (key_writes at_spot state.cells ∷ key_writes (place_site Horizontal) state.horizontal_offsets ∷ key_writes (place_site Vertical) state.vertical_offsets ∷ [])
    (no_default state (of_line (LineOf.Horizontal n) p) (λ x. refl), (no_class state (of_line (LineOf.Horizontal n) p) (λ d. refl), (no_vertical state (of_line (LineOf.Horizontal n) p) (λ n. refl), tt)))
    (no_key at_spot state.cells (of_line (LineOf.Horizontal n) p) (λ p. refl), (no_key (place_site Horizontal) state.horizontal_offsets (of_line (LineOf.Horizontal n) p) (λ p. refl), (no_key (place_site Vertical) state.vertical_offsets (of_line (LineOf.Horizontal n) p) (λ p. refl), tt)))
    ∙ replay_horizontal state n p)
Shows-writes_of state (at_spot spot) = sym (only_block (at_spot spot) (default_writes state.default_value ∷ class_writes state.class_record classes ∷ entry_events vertical_line_set (map.entries state.vertical_lines) ∷ entry_events horizontal_line_set (map.entries state.horizontal_lines) ∷ []) (key_writes at_spot state.cells) (key_writes (place_site Horizontal) state.horizontal_offsets ∷ key_writes (place_site Vertical) state.vertical_offsets ∷ [])
    (no_default state (at_spot spot) (λ x. refl), (no_class state (at_spot spot) (λ d. refl), (no_vertical state (at_spot spot) (λ n. refl), (no_horizontal state (at_spot spot) (λ n. refl), tt))))
    (no_key (place_site Horizontal) state.horizontal_offsets (at_spot spot) (λ p. refl), (no_key (place_site Vertical) state.vertical_offsets (at_spot spot) (λ p. refl), tt))
    ∙ replay_key spots_total exact_spots at_spot state.cells spot (λ j. sym (is_same_spot spot j)))
Shows-writes_of state (at_offset Horizontal r c o) = sym (only_block (at_offset Horizontal r c o) (default_writes state.default_value ∷ class_writes state.class_record classes ∷ entry_events vertical_line_set (map.entries state.vertical_lines) ∷ entry_events horizontal_line_set (map.entries state.horizontal_lines) ∷ key_writes at_spot state.cells ∷ []) (key_writes (place_site Horizontal) state.horizontal_offsets) (key_writes (place_site Vertical) state.vertical_offsets ∷ [])
    (no_default state (at_offset Horizontal r c o) (λ x. refl), (no_class state (at_offset Horizontal r c o) (λ d. refl), (no_vertical state (at_offset Horizontal r c o) (λ n. refl), (no_horizontal state (at_offset Horizontal r c o) (λ n. refl), (no_key at_spot state.cells (at_offset Horizontal r c o) (λ p. refl), tt)))))
    (no_key (place_site Vertical) state.vertical_offsets (at_offset Horizontal r c o) (λ p. refl), tt)
    ∙ replay_key edge_places_total exact_edge_places (place_site Horizontal) state.horizontal_offsets (edge_place r c o) (λ j. sym (is_same_edge_place (edge_place r c o) j)))
Shows-writes_of state (at_offset Vertical r c o) = sym (only_block (at_offset Vertical r c o) (default_writes state.default_value ∷ class_writes state.class_record classes ∷ entry_events vertical_line_set (map.entries state.vertical_lines) ∷ entry_events horizontal_line_set (map.entries state.horizontal_lines) ∷ key_writes at_spot state.cells ∷ key_writes (place_site Horizontal) state.horizontal_offsets ∷ []) (key_writes (place_site Vertical) state.vertical_offsets) ([])
    (no_default state (at_offset Vertical r c o) (λ x. refl), (no_class state (at_offset Vertical r c o) (λ d. refl), (no_vertical state (at_offset Vertical r c o) (λ n. refl), (no_horizontal state (at_offset Vertical r c o) (λ n. refl), (no_key at_spot state.cells (at_offset Vertical r c o) (λ p. refl), (no_key (place_site Horizontal) state.horizontal_offsets (at_offset Vertical r c o) (λ p. refl), tt))))))
    tt
    ∙ replay_key edge_places_total exact_edge_places (place_site Vertical) state.vertical_offsets (edge_place r c o) (λ j. sym (is_same_edge_place (edge_place r c o) j)))

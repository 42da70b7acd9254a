-- What a configuration shows once its corners are joined.
use Rattle.std.proofs.Common.{◌≡◌, ℕ, zero, suc, ◌+◌, ◌-◌, ◌==◌, ◌&&◌, ◌<◌, ◌≤◌, ◌⊎◌, inl, inr, Bool, true, false, Option, Some, None, is_some, List, [], refl, sym, ap, subst, ◌∙◌, map, option_map, option_and_then, nat_lt, nat_le, arith, IsTrue, ◌↔◌, if◌then◌else◌}
use Rattle.std.specs.List.{last_or}
use Rattle.std.specs.Option.{option_or}
use Rattle.std.proofs.Math.Bool.{and-false}
use Rattle.std.proofs.lemmas.Bool.{eqb-true}
use Rattle.std.proofs.lemmas.Bool.Decides.{nat_tests}
use Rattle.tabled_boxes.specs.declared.crossing.Edges.{Edges}
use Rattle.tabled_boxes.specs.Arms.{arms_of}
use Rattle.tabled_boxes.specs.Joined.{met, arm_count}
use Rattle.tabled_boxes.proofs.Joining.{few, stays, written}
use Rattle.tabled_object.specs.Entities.{position}
use Rattle.tabled_places.specs.declared.place.LineOf.{LineOf}
use Rattle.tabled_places.specs.declared.place.Place.{Place}
use Rattle.tabled_places.specs.declared.site.Spot.TheVariants.{Edge, Crossing}
use Rattle.tabled_places.specs.declared.site.Site.{Site}
use Rattle.tabled_places.specs.declared.site.Site.TheVariants.{Default as the_default, Class as of_class, Line as of_line, Cell as at_spot, Offset as at_offset}
use Rattle.tabled_places.specs.declared.event.Written.{Written}
use Rattle.tabled_places.specs.declared.event.Written.TheVariants.{Sign as sign}
use Rattle.tabled_places.specs.Drawn.{Drawn, drawn, draws, lies_on}
use Rattle.tabled_places.specs.Event as grid
use Rattle.tabled_places.specs.State.{state_at, writes_of}
use Rattle.tabled_places.specs.Value.{has_spot, plain_value}
use Rattle.tabled_places.proofs.DrawnLemmas.{Drawn-drawn}
use Rattle.tabled_places.proofs.Writing.{Shows-writes_of}
use Rattle.tabled_configuration.specs.Configuration.{Configuration, Changes}
use Rattle.tabled_correction.specs.Correction.{Write, Spanned, written_over, last_at, where_so, after_writes, spanned, crossing_written, crossings_written}
use Rattle.tabled_correction.specs.Corners.{is_left_hidden, is_top_hidden, left_edge, top_edge, edges_at, became, corner_step, horizontal_drawn, vertical_drawn, corners_of, joined_corner_events}
use Rattle.tabled_correction.proofs.CornerLaws.{own_writes, none_where, shows_joined, no_step, none_joined, joined_again}
use Rattle.tabled_correction.proofs.Standing.{IsMissing, kept, stands, outside, table_after, at_sites}

-- ---- crossings outside the table are not written

none_if : (hidden : Bool) (o : Option ℕ) → o ≡ None → (if hidden then None else o) ≡ None
none_if true o h = refl
none_if false o h = h

abbrev no_edges : Edges
no_edges = record { above = None; below = None; left = None; right = None }

-- where nothing is shown no crossing becomes another one
nothing_joined : (table : Spanned) → ((place : Place) → table.shown place ≡ None) → (r c : ℕ) → became table r c ≡ table.shown (Place.Cross r c)
unfolding became left_edge top_edge
nothing_joined table nothing r c =
    let beside : (row col : ℕ) → left_edge table (position row col) ≡ None = λ row col. none_if (is_left_hidden table (position row col)) (table.shown (Place.Vertical row col 0)) (nothing (Place.Vertical row col 0)) in
    let over : (row col : ℕ) → top_edge table (position row col) ≡ None = λ row col. none_if (is_top_hidden table (position row col)) (table.shown (Place.Horizontal row col 0)) (nothing (Place.Horizontal row col 0)) in
    let none : edges_at table r c ≡ no_edges = λ i. record {
      above = none_if (r == 0) (left_edge table (position (r - 1) c)) (beside (r - 1) c) i;
      below = beside r c i;
      left = none_if (c == 0) (top_edge table (position r (c - 1))) (over r (c - 1)) i;
      right = over r c i;
    } in
    few (table.shown (Place.Cross r c)) (edges_at table r c) (subst (λ edges. arm_count (met edges) < 2) (sym none) (omega arith))

not_below_none : (n : ℕ) → nat_lt n 0 ≡ false
not_below_none n = grind (arith, nat_tests)

within : (n m : ℕ) → nat_lt n (m + 1) ≡ true → nat_le n m ≡ true
within n m h = grind (arith, nat_tests)

some_below : (n : ℕ) → nat_lt 0 (suc n) ≡ true
some_below n = grind (arith, nat_tests)

-- a table that has rows and columns up to a crossing, and not the crossing, has no place
no_place : (rows cols r c : ℕ) → has_spot (rows, cols) (Place.Cross r c) ≡ false → nat_lt r (rows + 1) ≡ true → nat_lt c (cols + 1) ≡ true → (place : Place) → has_spot (rows, cols) place ≡ false
no_place zero cols r c there row col (Place.Horizontal s d k) = refl
no_place zero cols r c there row col (Place.Vertical s d k) = rw (not_below_none s, and-false) refl
no_place zero cols r c there row col (Place.Cross s d) = refl
no_place (suc n) zero r c there row col (Place.Horizontal s d k) = rw (not_below_none d, and-false) refl
no_place (suc n) zero r c there row col (Place.Vertical s d k) = refl
no_place (suc n) zero r c there row col (Place.Cross s d) = rw and-false refl
no_place (suc n) (suc m) r c there row col place =
    let yes : has_spot (suc n, suc m) (Place.Cross r c) ≡ true = λ i. some_below n i && some_below m i && within r (suc n) row i && within c (suc m) col i in
    absurd (let no : true ≡ false = sym yes ∙ there in cc)

missing_outside : (shape : ℕ × ℕ) (cfg : Configuration) (r c : ℕ) → has_spot shape (Place.Cross r c) ≡ false → IsMissing r c (corners_of shape cfg)
missing_outside (rows, cols) cfg r c there =
    let table : Spanned = spanned (rows, cols) cfg in
    let horizontal : ℕ → Bool = horizontal_drawn (rows, cols) cfg in
    let vertical : ℕ → Bool = vertical_drawn (rows, cols) cfg in
    let step : List Write = corner_step table r c in
    own_writes table r c horizontal vertical
    ∙ none_where (nat_lt r (rows + 1)) (where_so (horizontal r) (where_so (nat_lt c (cols + 1)) (where_so (vertical c) step))) (λ row.
    none_where (horizontal r) (where_so (nat_lt c (cols + 1)) (where_so (vertical c) step)) (λ _.
    none_where (nat_lt c (cols + 1)) (where_so (vertical c) step) (λ col.
    none_where (vertical c) step (λ _.
    no_step table r c (nothing_joined table (λ place. outside (state_at cfg.characters) (rows, cols) place (no_place rows cols r c there row col place)) r c)))))

-- ---- which crossings are written

-- both lines of a written crossing are drawn
both_drawn : (a h b v : Bool) (step : List Write) → is_some (option_map (λ (entry : Write). entry.1) (last_or None (where_so a (where_so h (where_so b (where_so v step)))))) ≡ true → (h ≡ true) × (v ≡ true)
both_drawn true true true true step is = (refl, refl)
both_drawn false h b v step is = absurd cc
both_drawn true false b v step is = absurd cc
both_drawn true true false v step is = absurd cc
both_drawn true true true false step is = absurd cc

drawn_across : (shape : ℕ × ℕ) (cfg : Configuration) (r c : ℕ) → is_some (last_at (corners_of shape cfg) (position r c)) ≡ true → (horizontal_drawn shape cfg r ≡ true) × (vertical_drawn shape cfg c ≡ true)
drawn_across shape cfg r c is =
    both_drawn (nat_lt r (shape.0 + 1)) (horizontal_drawn shape cfg r) (nat_lt c (shape.1 + 1)) (vertical_drawn shape cfg c) (corner_step (spanned shape cfg) r c)
    (sym (ap (λ mine. is_some (option_map (λ (entry : Write). entry.1) (last_or None mine))) (own_writes (spanned shape cfg) r c (horizontal_drawn shape cfg) (vertical_drawn shape cfg))) ∙ is)

-- whether a line is drawn, of what is kept and as the test
tells_drawn : (cfg : Configuration) (count : ℕ) (line : LineOf) → Drawn (state_at cfg.characters) count line ↔ IsTrue (drawn (writes_of cfg.characters) count line)
tells_drawn cfg count line = Drawn-drawn (writes_of cfg.characters) (state_at cfg.characters) count line (Shows-writes_of cfg.characters)

some_or : {A : Type 0} (a b : Option A) → is_some b ≡ true → is_some (option_or a b) ≡ true
some_or None b h = h
some_or (Some x) b h = refl

on_line : (count : ℕ) (line : LineOf) (r c : ℕ) → draws count line (at_spot (Crossing r c)) ≡ lies_on line (Crossing r c)
on_line count (LineOf.Horizontal n) r c = refl
on_line count (LineOf.Vertical n) r c = refl

-- ---- after the change

module _ (shape : ℕ × ℕ) (old new : Configuration) (changes : Changes (joined_corner_events shape old) old new) where
  abbrev corners : List Write
  corners = corners_of shape old

  abbrev before : Site → Option (Written ℕ)
  before = state_at old.characters

  abbrev after : Site → Option (Written ℕ)
  after = state_at new.characters

  by_crossings : Changes (crossings_written corners) old new
  unfolding joined_corner_events
  by_crossings = changes

  at_each_site : grid.Changes (map crossing_written corners) before after
  at_each_site = at_sites shape corners old new by_crossings (missing_outside shape old)

  pub table_joined : after_writes (spanned shape old) corners ≡ spanned shape new
  table_joined = table_after shape corners old new by_crossings (missing_outside shape old)

  -- ---- no line is drawn that was not, and none is gone

  -- a site keeps what it kept, or is a crossing that is written
  same_or_written : (site : Site) → (after site ≡ before site) ⊎ ((r : ℕ) × (c : ℕ) × (site ≡ at_spot (Crossing r c)) × (is_some (last_at corners (position r c)) ≡ true))
  same_or_written the_default = inl (kept corners before after at_each_site the_default (λ s d. refl))
  same_or_written (of_class class) = inl (kept corners before after at_each_site (of_class class) (λ s d. refl))
  same_or_written (of_line line part) = inl (kept corners before after at_each_site (of_line line part) (λ s d. refl))
  same_or_written (at_offset direction r c offset) = inl (kept corners before after at_each_site (at_offset direction r c offset) (λ s d. refl))
  same_or_written (at_spot (Edge direction r c)) = inl (kept corners before after at_each_site (at_spot (Edge direction r c)) (λ s d. refl))
  same_or_written (at_spot (Crossing r c)) = by (last_at corners (position r c)) refl
    where
      by : (o : Option ℕ) → last_at corners (position r c) ≡ o
          → (after (at_spot (Crossing r c)) ≡ before (at_spot (Crossing r c))) ⊎ ((s : ℕ) × (d : ℕ) × (at_spot (Crossing r c) ≡ at_spot (Crossing s d)) × (is_some (last_at corners (position s d)) ≡ true))
      by None e = inl (stands corners before after at_each_site r c ∙ ap (λ o. option_or (option_map sign o) (before (at_spot (Crossing r c)))) e)
      by (Some x) e = inr (r, c, refl, ap is_some e)

  still_some : (site : Site) → is_some (before site) ≡ true → is_some (after site) ≡ true
  still_some (at_spot (Crossing r c)) h = ap is_some (stands corners before after at_each_site r c) ∙ some_or (option_map sign (last_at corners (position r c))) (before (at_spot (Crossing r c))) h
  still_some the_default h = ap is_some (kept corners before after at_each_site the_default (λ s d. refl)) ∙ h
  still_some (of_class class) h = ap is_some (kept corners before after at_each_site (of_class class) (λ s d. refl)) ∙ h
  still_some (of_line line part) h = ap is_some (kept corners before after at_each_site (of_line line part) (λ s d. refl)) ∙ h
  still_some (at_offset direction r c offset) h = ap is_some (kept corners before after at_each_site (at_offset direction r c offset) (λ s d. refl)) ∙ h
  still_some (at_spot (Edge direction r c)) h = ap is_some (kept corners before after at_each_site (at_spot (Edge direction r c)) (λ s d. refl)) ∙ h

  still_drawn : (count : ℕ) (line : LineOf) → Drawn before count line → Drawn after count line
  still_drawn count line d = record { no_further = d.no_further; by = d.by; draws_it = d.draws_it; is_kept = still_some d.by d.is_kept }

  drawn_already : (count : ℕ) (line : LineOf) → ((r c : ℕ) → is_some (last_at corners (position r c)) ≡ true → lies_on line (Crossing r c) ≡ true → Drawn before count line) → Drawn after count line → Drawn before count line
  drawn_already count line written d = elim (same_or_written d.by) [
    | inl same ↦ record { no_further = d.no_further; by = d.by; draws_it = d.draws_it; is_kept = sym (ap is_some same) ∙ d.is_kept }
    | inr (r, c, is, there) ↦ written r c there (sym (on_line count line r c) ∙ ap (draws count line) (sym is) ∙ d.draws_it)
  ]

  pub horizontal_stays : (n : ℕ) → Drawn after shape.0 (LineOf.Horizontal n) ↔ Drawn before shape.0 (LineOf.Horizontal n)
  horizontal_stays n = (
    drawn_already shape.0 (LineOf.Horizontal n) (λ r c there lies.
        subst (λ k. Drawn before shape.0 (LineOf.Horizontal k)) (eqb-true r n lies) ((tells_drawn old shape.0 (LineOf.Horizontal r)).1 (drawn_across shape old r c there).0)),
    still_drawn shape.0 (LineOf.Horizontal n),
  )

  pub vertical_stays : (n : ℕ) → Drawn after shape.1 (LineOf.Vertical n) ↔ Drawn before shape.1 (LineOf.Vertical n)
  vertical_stays n = (
    drawn_already shape.1 (LineOf.Vertical n) (λ r c there lies.
        subst (λ k. Drawn before shape.1 (LineOf.Vertical k)) (eqb-true c n lies) ((tells_drawn old shape.1 (LineOf.Vertical c)).1 (drawn_across shape old r c there).1)),
    still_drawn shape.1 (LineOf.Vertical n),
  )

  -- ---- what shows

  up_to : (n m : ℕ) → n ≤ m → nat_lt n (m + 1) ≡ true
  up_to n m h = grind (arith, nat_tests)

  over_joined : (r c : ℕ) → Drawn before shape.0 (LineOf.Horizontal r) → Drawn before shape.1 (LineOf.Vertical c) → written_over corners (spanned shape old).shown (Place.Cross r c) ≡ became (spanned shape old) r c
  over_joined r c across down =
      shows_joined (spanned shape old) r c (horizontal_drawn shape old) (vertical_drawn shape old) (up_to r shape.0 across.no_further) (up_to c shape.1 down.no_further)
      ((tells_drawn old shape.0 (LineOf.Horizontal r)).0 across) ((tells_drawn old shape.1 (LineOf.Vertical c)).0 down)

  pub crossing_joined : (r c : ℕ) → Drawn before shape.0 (LineOf.Horizontal r) → Drawn before shape.1 (LineOf.Vertical c) → plain_value after shape (Place.Cross r c) ≡ became (spanned shape old) r c
  crossing_joined r c across down = ap (λ (table : Spanned). table.shown (Place.Cross r c)) (sym table_joined) ∙ over_joined r c across down

  pub horizontal_edge_stays : (r c k : ℕ) → plain_value after shape (Place.Horizontal r c k) ≡ plain_value before shape (Place.Horizontal r c k)
  horizontal_edge_stays r c k = ap (λ (table : Spanned). table.shown (Place.Horizontal r c k)) (sym table_joined)

  pub vertical_edge_stays : (r c k : ℕ) → plain_value after shape (Place.Vertical r c k) ≡ plain_value before shape (Place.Vertical r c k)
  vertical_edge_stays r c k = ap (λ (table : Spanned). table.shown (Place.Vertical r c k)) (sym table_joined)

  -- ---- once is enough

  pub joined_once : joined_corner_events shape new ≡ []
  unfolding joined_corner_events
  joined_once = ap crossings_written (none_joined (spanned shape new) (horizontal_drawn shape new) (vertical_drawn shape new) (λ r c row col across down.
      subst (λ (table : Spanned). became table r c ≡ table.shown (Place.Cross r c)) table_joined (joined_again (spanned shape old) corners r c (over_joined r c
      ((horizontal_stays r).0 ((tells_drawn new shape.0 (LineOf.Horizontal r)).1 across)) ((vertical_stays c).0 ((tells_drawn new shape.1 (LineOf.Vertical c)).1 down))))))

-- ---- where all fits

-- each crossing of drawn lines has the arms of its edges
pub all_fit : (shape : ℕ × ℕ) (cfg : Configuration) → ((r c : ℕ) → Drawn (state_at cfg.characters) shape.0 (LineOf.Horizontal r) → Drawn (state_at cfg.characters) shape.1 (LineOf.Vertical c) → option_and_then arms_of (plain_value (state_at cfg.characters) shape (Place.Cross r c)) ≡ Some (met (edges_at (spanned shape cfg) r c)))
    → joined_corner_events shape cfg ≡ []
unfolding joined_corner_events became
all_fit shape cfg fit = ap crossings_written (none_joined (spanned shape cfg) (horizontal_drawn shape cfg) (vertical_drawn shape cfg) (λ r c row col across down.
    stays (plain_value (state_at cfg.characters) shape (Place.Cross r c)) (edges_at (spanned shape cfg) r c)
    (fit r c ((tells_drawn cfg shape.0 (LineOf.Horizontal r)).1 across) ((tells_drawn cfg shape.1 (LineOf.Vertical c)).1 down))))

-- a crossing that becomes another one has the arms of its edges
pub written_arms : (shape : ℕ × ℕ) (cfg : Configuration) (r c : ℕ) → (became (spanned shape cfg) r c ≡ plain_value (state_at cfg.characters) shape (Place.Cross r c) → ⊥) → option_and_then arms_of (became (spanned shape cfg) r c) ≡ Some (met (edges_at (spanned shape cfg) r c))
unfolding became
written_arms shape cfg r c changed = written (plain_value (state_at cfg.characters) shape (Place.Cross r c)) (edges_at (spanned shape cfg) r c) changed

-- Which lines a store draws, by the few things that it reads.
use Rattle.std.proofs.Common.{◌≡◌, ℕ, Bool, true, false, ◌||◌, Option, Some, None, is_some, IsSome, IsTrue, refl, sym, subst, ◌∙◌, ◌≤◌, ltb, option_and_then, ◌⊎◌, inl, inr, ◌↔◌, arith, option_map, nat_cmp}
use Rattle.std.specs.Cmp.{nat_cmp_total}
use Rattle.std.specs.FinMap as map
use Rattle.std.proofs.lemmas.Bool.{eqb-true, ltb-true, lt-ltb, or_cases, or_left, or_right}
use Rattle.tabled_grid.specs.declared.line_numbers.LineNumbers.{LineNumbers}
use Rattle.tabled_places.specs.declared.place.LineOf.{LineOf}
use Rattle.tabled_places.specs.declared.site.Direction.{Direction}
use Rattle.tabled_places.specs.declared.site.Direction.TheVariants.{Horizontal, Vertical}
use Rattle.tabled_places.specs.declared.place.Rank.{Rank}
use Rattle.tabled_places.specs.declared.place.Rank.TheVariants.{First as first, Inner as inner, Last as last}
use Rattle.tabled_places.specs.Site.{stands, class_value, horizontal_meeting}
use Rattle.tabled_places.specs.declared.site.Part.TheVariants.{Mark as mark, Crossings as meeting}
use Rattle.tabled_places.specs.declared.site.Spot.{Spot}
use Rattle.tabled_places.specs.declared.site.Site.{Site}
use Rattle.tabled_places.specs.declared.site.Site.TheVariants.{Default as the_default, Class as of_class, Line as of_line, Cell as at_spot}
use Rattle.tabled_places.specs.declared.event.Written.TheVariants.{Sign as sign}
use Rattle.tabled_grid.specs.Count.{passes}
use Rattle.tabled_places.specs.Keys.{line_cmp, spot_cmp}
use Rattle.tabled_grid.specs.Counted.{number_at, number_of, CellsCounted, LinesCounted, horizontal_draws, vertical_draws, across_drawn, line_drawn}
use Rattle.tabled_places.specs.Drawn.{number, lies_on, draws, Drawn}
use Rattle.tabled_places.specs.State.{State, state_at, horizontal_part, vertical_part, has_class, line_classes, rank_draws, class_draws}
use Rattle.tabled_grid.proofs.Counting.{count_positive, count_from}
use Rattle.tabled_grid.proofs.CountedLemmas.{cell_counts, some_on_line}
use Rattle.tabled_places.proofs.LineWrites.{same_number}
use Rattle.tabled_places.proofs.LookUps.{is_some-sign, line_of, drawing, some_rank, by_rank, all_draw, class_draws_it}

-- what a part of a custom line has, the line has
line_there : {A B : Type 0} (f : A → Option B) (o : Option A) → is_some (option_and_then f o) ≡ true → is_some o ≡ true
line_there f None h = absurd cc
line_there f (Some x) h = refl

meets : {A T : Type 0} (field : A → Option T) (o : Option A) → is_some (option_and_then (λ x. option_map sign (field x)) o) ≡ passes (λ x. is_some (field x)) o
meets field None = refl
meets field (Some x) = is_some-sign (field x)

never : {A : Type 0} (o : Option A) → passes (λ _. false) o ≡ true → ⊥
never None h = cc
never (Some x) h = cc

marked : {A W : Type 0} (w : W) (o : Option A) → is_some o ≡ true → is_some (option_and_then (λ _. Some w) o) ≡ true
marked w None h = absurd cc
marked w (Some x) h = refl

-- what is looked at above the class record, for a line of either direction
module _ {L K T : Type 0} (own : map.FinMap nat_cmp L) (drawers : Rank → K → Bool) (across : LineNumbers) (others : map.FinMap nat_cmp K) (numbers : map.FinMap line_cmp ℕ) (kept : map.FinMap spot_cmp T) (lines : LinesCounted drawers across others) (cells : CellsCounted numbers kept) (count' : ℕ) (line : LineOf) where
  by_own : is_some (map.get own (number line)) ≡ true → line_drawn own across numbers count' line ≡ true
  by_own e = or_left _ _ (or_left _ _ e)

  by_crossing : (rank : Rank) (m : ℕ) → stands rank count' (number line) ≡ true → passes (drawers rank) (map.get others m) ≡ true → line_drawn own across numbers count' line ≡ true
  by_crossing rank m e f =
      let some = count_positive nat_cmp_total map.nat_cmp-IsAntisymmetric (λ _ x. drawers rank x) others m f in
      or_left _ _ (or_right (is_some (map.get own (number line))) _ (by_rank (λ r. ltb 0 (number_of r across)) rank count' (number line) e (lt-ltb 0 (number_of rank across) (omega (arith, some, lines.numbers_are rank)))))

  by_spot : (spot : Spot) → lies_on line spot ≡ true → IsSome (map.get kept spot) → line_drawn own across numbers count' line ≡ true
  by_spot spot e f = or_right (is_some (map.get own (number line)) || across_drawn across count' (number line)) _ (lt-ltb 0 (number_at numbers line) (cell_counts numbers kept cells spot f line e))

  -- each of these is one of three grounds
  Ground : Type 0
  Ground =
      (is_some (map.get own (number line)) ≡ true)
      ⊎ (((rank : Rank) × (m : ℕ) × (stands rank count' (number line) ≡ true) × (passes (drawers rank) (map.get others m) ≡ true))
      ⊎ ((spot : Spot) × (lies_on line spot ≡ true) × IsSome (map.get kept spot)))

  ground : line_drawn own across numbers count' line ≡ true → Ground
  unfolding Ground
  ground h = elim (or_cases (is_some (map.get own (number line)) || across_drawn across count' (number line)) (ltb 0 (number_at numbers line)) h) [
    | inr some ↦ inr (inr (some_on_line numbers kept cells line (ltb-true 0 (number_at numbers line) some)))
    | inl before ↦ elim (or_cases (is_some (map.get own (number line))) (across_drawn across count' (number line)) before) [
      | inl there ↦ inl there
      | inr crossed ↦
          let rank = some_rank (λ r. ltb 0 (number_of r across)) count' (number line) crossed in
          let found = count_from nat_cmp_total map.nat_cmp-IsAntisymmetric (λ _ x. drawers rank.0 x) others (omega (arith, lines.numbers_are rank.0, ltb-true 0 (number_of rank.0 across) rank.2)) in
          inr (inl (rank.0, found.0, rank.1, found.1))
    ]
  ]

module _ {T : Type 0} (k : State T) (numbers : map.FinMap line_cmp ℕ) (upright level : LineNumbers) (cells : CellsCounted numbers k.cells) (verticals : LinesCounted vertical_draws upright k.vertical_lines) (horizontals : LinesCounted horizontal_draws level k.horizontal_lines) (count' : ℕ) where
  above : LineOf → Bool
  above (LineOf.Horizontal n) = line_drawn k.horizontal_lines upright numbers count' (LineOf.Horizontal n)
  above (LineOf.Vertical n) = line_drawn k.vertical_lines level numbers count' (LineOf.Vertical n)

  -- each site that draws the line and keeps something is one of the grounds
  by_site : (line : LineOf) → is_some k.default_value ≡ false → class_draws k.class_record count' line ≡ false → (q : Site) → draws count' line q ≡ true → is_some (state_at k q) ≡ true → above line ≡ true
  unfolding above line_of
  by_site line none no_class the_default e f = absurd (cc (is_some-sign k.default_value))
  by_site (LineOf.Horizontal n) none no_class (of_class c) e f = absurd (cc (class_draws_it k.class_record Horizontal count' n c e (sym (is_some-sign (class_value c k.class_record)) ∙ f)))
  by_site (LineOf.Vertical n) none no_class (of_class c) e f = absurd (cc (class_draws_it k.class_record Vertical count' n c e (sym (is_some-sign (class_value c k.class_record)) ∙ f)))
  by_site (LineOf.Horizontal n) none no_class (of_line (LineOf.Horizontal m) mark) e f =
      by_own k.horizontal_lines vertical_draws upright k.vertical_lines numbers k.cells verticals cells count' (LineOf.Horizontal n)
      (subst (λ i. is_some (map.get k.horizontal_lines i) ≡ true) (eqb-true m n e) (line_there (horizontal_part mark) (map.get k.horizontal_lines m) f))
  by_site (LineOf.Vertical n) none no_class (of_line (LineOf.Vertical m) mark) e f =
      by_own k.vertical_lines horizontal_draws level k.horizontal_lines numbers k.cells horizontals cells count' (LineOf.Vertical n)
      (subst (λ i. is_some (map.get k.vertical_lines i) ≡ true) (eqb-true m n e) (line_there (vertical_part mark) (map.get k.vertical_lines m) f))
  by_site (LineOf.Horizontal n) none no_class (of_line (LineOf.Vertical m) (meeting first)) e f =
      by_crossing k.horizontal_lines vertical_draws upright k.vertical_lines numbers k.cells verticals cells count' (LineOf.Horizontal n) first m e (sym (meets (λ x. x.top) (map.get k.vertical_lines m)) ∙ f)
  by_site (LineOf.Horizontal n) none no_class (of_line (LineOf.Vertical m) (meeting last)) e f =
      by_crossing k.horizontal_lines vertical_draws upright k.vertical_lines numbers k.cells verticals cells count' (LineOf.Horizontal n) last m e (sym (meets (λ x. x.bottom) (map.get k.vertical_lines m)) ∙ f)
  by_site (LineOf.Vertical n) none no_class (of_line (LineOf.Horizontal m) (meeting rank)) e f =
      by_crossing k.vertical_lines horizontal_draws level k.horizontal_lines numbers k.cells horizontals cells count' (LineOf.Vertical n) rank m e (sym (meets (horizontal_meeting rank) (map.get k.horizontal_lines m)) ∙ f)
  by_site (LineOf.Horizontal n) none no_class (at_spot spot) e f = by_spot k.horizontal_lines vertical_draws upright k.vertical_lines numbers k.cells verticals cells count' (LineOf.Horizontal n) spot e (sym (is_some-sign (map.get k.cells spot)) ∙ f)
  by_site (LineOf.Vertical n) none no_class (at_spot spot) e f = by_spot k.vertical_lines horizontal_draws level k.horizontal_lines numbers k.cells horizontals cells count' (LineOf.Vertical n) spot e (sym (is_some-sign (map.get k.cells spot)) ∙ f)
  by_site line none no_class q e f = absurd cc

  -- and each ground is a site that draws the line and keeps something
  Draws : LineOf → Type 0
  Draws line = (q : Site) × (draws count' line q ≡ true) × (is_some (state_at k q) ≡ true)

  row_crossed : (n : ℕ) (rank : Rank) (m : ℕ) → stands rank count' n ≡ true → passes (vertical_draws rank) (map.get k.vertical_lines m) ≡ true → Draws (LineOf.Horizontal n)
  unfolding Draws
  row_crossed n first m e f = (of_line (LineOf.Vertical m) (meeting first), e, meets (λ x. x.top) (map.get k.vertical_lines m) ∙ f)
  row_crossed n inner m e f = absurd (never (map.get k.vertical_lines m) f)
  row_crossed n last m e f = (of_line (LineOf.Vertical m) (meeting last), e, meets (λ x. x.bottom) (map.get k.vertical_lines m) ∙ f)

  site_of : (line : LineOf) → above line ≡ true → Draws line
  unfolding above Ground Draws
  site_of (LineOf.Horizontal n) h = elim (ground k.horizontal_lines vertical_draws upright k.vertical_lines numbers k.cells verticals cells count' (LineOf.Horizontal n) h) [
    | inl there ↦ (of_line (LineOf.Horizontal n) mark, same_number n, marked _ (map.get k.horizontal_lines n) there)
    | inr other ↦ elim other [
      | inl crossed ↦ row_crossed n crossed.0 crossed.1 crossed.2 crossed.3
      | inr spot ↦ (at_spot spot.0, spot.1, is_some-sign (map.get k.cells spot.0) ∙ spot.2)
    ]
  ]
  site_of (LineOf.Vertical n) h = elim (ground k.vertical_lines horizontal_draws level k.horizontal_lines numbers k.cells horizontals cells count' (LineOf.Vertical n) h) [
    | inl there ↦ (of_line (LineOf.Vertical n) mark, same_number n, marked _ (map.get k.vertical_lines n) there)
    | inr other ↦ elim other [
      | inl crossed ↦ (of_line (LineOf.Horizontal crossed.1) (meeting crossed.0), crossed.2, meets (horizontal_meeting crossed.0) (map.get k.horizontal_lines crossed.1) ∙ crossed.3)
      | inr spot ↦ (at_spot spot.0, spot.1, is_some-sign (map.get k.cells spot.0) ∙ spot.2)
    ]
  ]

  drawn_above : (line : LineOf) (answer : Bool) → number line ≤ count' → is_some k.default_value ≡ false → class_draws k.class_record count' line ≡ false → answer ≡ above line → IsTrue answer ↔ Drawn (state_at k) count' line
  unfolding Draws
  drawn_above line answer within none no_class e = (
    λ yes. let site = site_of line (sym e ∙ yes) in record { no_further = within; by = site.0; draws_it = site.1; is_kept = site.2 },
    λ drawn. e ∙ by_site line none no_class drawn.by drawn.draws_it drawn.is_kept,
  )

  -- what the levels above say, where the two weakest draw nothing
  pub row_left : (line : LineOf) (n : ℕ) (answer : Bool) → line ≡ LineOf.Horizontal n → number line ≤ count' → is_some k.default_value ≡ false → class_draws k.class_record count' line ≡ false → answer ≡ line_drawn k.horizontal_lines upright numbers count' line → IsTrue answer ↔ Drawn (state_at k) count' line
  unfolding above
  row_left (LineOf.Horizontal m) n answer is within none no_class e = drawn_above (LineOf.Horizontal m) answer within none no_class e
  row_left (LineOf.Vertical m) n answer is within none no_class e = absurd cc

  pub col_left : (line : LineOf) (n : ℕ) (answer : Bool) → line ≡ LineOf.Vertical n → number line ≤ count' → is_some k.default_value ≡ false → class_draws k.class_record count' line ≡ false → answer ≡ line_drawn k.vertical_lines level numbers count' line → IsTrue answer ↔ Drawn (state_at k) count' line
  unfolding above
  col_left (LineOf.Vertical m) n answer is within none no_class e = drawn_above (LineOf.Vertical m) answer within none no_class e
  col_left (LineOf.Horizontal m) n answer is within none no_class e = absurd cc

-- what the class record alone says
class_site : {T : Type 0} (k : State T) (count' : ℕ) (d : Direction) (n : ℕ) → rank_draws k.class_record count' d n ≡ true → (q : Site) × (draws count' (line_of d n) q ≡ true) × (is_some (state_at k q) ≡ true)
class_site k count' d n h =
    let rank = some_rank (λ r. has_class k.class_record (line_classes d r)) count' n h in
    let class = drawing k.class_record count' (line_of d n) _ (all_draw k.class_record d rank.0 count' n rank.1) rank.2 in
    (of_class class.0, class.1, is_some-sign (class_value class.0 k.class_record) ∙ class.2)

pub class_answer : {T : Type 0} (k : State T) (count' : ℕ) (line : LineOf) → number line ≤ count' → class_draws k.class_record count' line ≡ true → IsTrue true ↔ Drawn (state_at k) count' line
unfolding line_of
class_answer k count' (LineOf.Horizontal n) within h = let site = class_site k count' Horizontal n h in (λ _. record { no_further = within; by = site.0; draws_it = site.1; is_kept = site.2 }, λ _. refl)
class_answer k count' (LineOf.Vertical n) within h = let site = class_site k count' Vertical n h in (λ _. record { no_further = within; by = site.0; draws_it = site.1; is_kept = site.2 }, λ _. refl)

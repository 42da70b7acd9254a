-- Laws of joined corners: which crossings are written, and what they show then.
use Rattle.std.proofs.Common.{◌≡◌, ℕ, ◌+◌, ◌==◌, ◌&&◌, ◌<◌, Bool, true, false, cond, Option, Some, None, is_some, List, [], ◌∷◌, refl, sym, ap, ◌∙◌, filter, flat_map, option_map, nat_lt, arith, eq-eqb, if◌then◌else◌}
use Rattle.std.specs.List.{last_or}
use Rattle.std.specs.Option.{option_eq, option_or}
use Rattle.std.proofs.lemmas.Bool.{eqb-true}
use Rattle.std.proofs.lemmas.Bool.Decides.{nat_tests}
use Rattle.tabled_boxes.specs.Joined.{joined}
use Rattle.tabled_boxes.proofs.Joining.{remains, twice}
use Rattle.tabled_object.specs.Entities.{position, below}
use Rattle.tabled_places.specs.declared.place.Place.{Place}
use Rattle.tabled_correction.specs.Correction.{Write, Spanned, written_over, written_at, where_so, after_writes}
use Rattle.tabled_correction.specs.Corners.{is_left_hidden, is_top_hidden, left_edge, top_edge, edges_at, became, corner_step, line_joined, joined_corners}
use Rattle.tabled_correction.proofs.LinesBelow.{none_below, only_one}
use Rattle.tabled_correction.proofs.Standing.{own, IsMissing, missing_all, missing_at, missing_where}

where_both : (test : Write → Bool) (holds : Bool) (writes : List Write) → filter test (where_so holds writes) ≡ where_so holds (filter test writes)
where_both test true writes = refl
where_both test false writes = refl

both_same : (n m : Bool) → n ≡ true → m ≡ true → (n && m) ≡ true
both_same n m h g = λ i. (h i) && (g i)

first_apart : (a b : Bool) → a ≡ false → (a && b) ≡ false
first_apart a b h = ap (λ n. n && b) h

second_apart : (a b : Bool) → b ≡ false → (a && b) ≡ false
second_apart true b h = h
second_apart false b h = refl

turned : (n m : ℕ) → (n == m) ≡ false → (m == n) ≡ false
turned n m apart = grind (arith, nat_tests)

unless : (r c : ℕ) (same : Bool) (writes : List Write) → IsMissing r c writes → IsMissing r c (if same then [] else writes)
unless r c true writes none = refl
unless r c false writes none = none

-- ---- the crossings of one line

pub line_drawn : (table : Spanned) (horizontal vertical : ℕ → Bool) (r : ℕ) → horizontal r ≡ true → line_joined table horizontal vertical r ≡ flat_map (λ c. where_so (vertical c) (corner_step table r c)) (below (table.shape.1 + 1))
unfolding line_joined
line_drawn table horizontal vertical r h = ap (λ b. where_so b (flat_map (λ c. where_so (vertical c) (corner_step table r c)) (below (table.shape.1 + 1)))) h

pub line_not_drawn : (table : Spanned) (horizontal vertical : ℕ → Bool) (r : ℕ) → horizontal r ≡ false → line_joined table horizontal vertical r ≡ []
unfolding line_joined
line_not_drawn table horizontal vertical r h = ap (λ b. where_so b (flat_map (λ c. where_so (vertical c) (corner_step table r c)) (below (table.shape.1 + 1)))) h

-- ---- what is written at one crossing

module _ (table : Spanned) (r c : ℕ) where
  -- what is written elsewhere is none of it
  elsewhere : (i j : ℕ) → ((r == i) && (c == j)) ≡ false → IsMissing r c (corner_step table i j)
  unfolding corner_step
  elsewhere i j apart =
      unless r c (option_eq (λ a b. a == b) (became table i j) (table.shown (Place.Cross i j))) (written_at i j (became table i j)) (missing_at r c i j (became table i j) apart)

  at_home : filter (own r c) (corner_step table r c) ≡ corner_step table r c
  unfolding corner_step
  at_home = by (option_eq (λ a b. a == b) (became table r c) (table.shown (Place.Cross r c))) (became table r c)
    where
      by : (same : Bool) (o : Option ℕ) → filter (own r c) (if same then [] else written_at r c o) ≡ (if same then [] else written_at r c o)
      by true o = refl
      by false None = refl
      by false (Some x) = ap (λ b. cond b ((position r c, x) ∷ []) []) (both_same (r == r) (c == c) (eq-eqb r r refl) (eq-eqb c c refl))

  module _ (horizontal vertical : ℕ → Bool) where
    on_line : filter (own r c) (line_joined table horizontal vertical r) ≡ where_so (horizontal r) (where_so (nat_lt c (table.shape.1 + 1)) (where_so (vertical c) (corner_step table r c)))
    unfolding line_joined
    on_line =
        where_both (own r c) (horizontal r) (flat_map (λ j. where_so (vertical j) (corner_step table r j)) (below (table.shape.1 + 1)))
        ∙ ap (where_so (horizontal r)) (
        only_one (own r c) (λ j. where_so (vertical j) (corner_step table r j)) c
        (λ j apart. missing_where r c (vertical j) (corner_step table r j) (λ _. elsewhere r j (second_apart (r == r) (c == j) (turned j c apart)))) (table.shape.1 + 1)
        ∙ ap (where_so (nat_lt c (table.shape.1 + 1))) (where_both (own r c) (vertical c) (corner_step table r c) ∙ ap (where_so (vertical c)) at_home))

    off_line : (i : ℕ) → (i == r) ≡ false → IsMissing r c (line_joined table horizontal vertical i)
    unfolding line_joined
    off_line i apart =
        missing_where r c (horizontal i) (flat_map (λ j. where_so (vertical j) (corner_step table i j)) (below (table.shape.1 + 1))) (λ _.
        missing_all r c (λ j. where_so (vertical j) (corner_step table i j)) (below (table.shape.1 + 1)) (λ j.
        missing_where r c (vertical j) (corner_step table i j) (λ _. elsewhere i j (first_apart (r == i) (c == j) (turned i r apart)))))

    -- all that is written at the crossing
    pub own_writes : filter (own r c) (joined_corners table horizontal vertical) ≡ where_so (nat_lt r (table.shape.0 + 1)) (where_so (horizontal r) (where_so (nat_lt c (table.shape.1 + 1)) (where_so (vertical c) (corner_step table r c))))
    unfolding joined_corners
    own_writes = only_one (own r c) (line_joined table horizontal vertical) r off_line (table.shape.0 + 1) ∙ ap (where_so (nat_lt r (table.shape.0 + 1))) on_line

    pub own_step : nat_lt r (table.shape.0 + 1) ≡ true → nat_lt c (table.shape.1 + 1) ≡ true → horizontal r ≡ true → vertical c ≡ true → filter (own r c) (joined_corners table horizontal vertical) ≡ corner_step table r c
    own_step row col across down = own_writes ∙ (λ i. where_so (row i) (where_so (across i) (where_so (col i) (where_so (down i) (corner_step table r c)))))

  -- ---- what it shows then

  some_remains : is_some (table.shown (Place.Cross r c)) ≡ true → is_some (became table r c) ≡ true
  unfolding became
  some_remains h = remains (table.shown (Place.Cross r c)) (edges_at table r c) h

  step_over : option_or (option_map (λ (entry : Write). entry.1) (last_or None (corner_step table r c))) (table.shown (Place.Cross r c)) ≡ became table r c
  unfolding corner_step
  step_over = by (became table r c) (table.shown (Place.Cross r c)) some_remains
    where
      same_or : (x y : ℕ) (same : Bool) → (x == y) ≡ same → option_or (option_map (λ (entry : Write). entry.1) (last_or None (if same then [] else (position r c, x) ∷ []))) (Some y) ≡ Some x
      same_or x y true e = ap Some (sym (eqb-true x y e))
      same_or x y false e = refl

      by : (after before : Option ℕ) → (is_some before ≡ true → is_some after ≡ true)
          → option_or (option_map (λ (entry : Write). entry.1) (last_or None (if option_eq (λ a b. a == b) after before then [] else written_at r c after))) before ≡ after
      by None None h = refl
      by None (Some y) h = let none : is_some {T = ℕ} None ≡ true = h refl in absurd cc
      by (Some x) None h = refl
      by (Some x) (Some y) h = same_or x y (x == y) refl

  pub shows_joined : (horizontal vertical : ℕ → Bool) → nat_lt r (table.shape.0 + 1) ≡ true → nat_lt c (table.shape.1 + 1) ≡ true → horizontal r ≡ true → vertical c ≡ true
      → written_over (joined_corners table horizontal vertical) table.shown (Place.Cross r c) ≡ became table r c
  shows_joined horizontal vertical row col across down =
      ap (λ mine. option_or (option_map (λ (entry : Write). entry.1) (last_or None mine)) (table.shown (Place.Cross r c))) (own_step horizontal vertical row col across down) ∙ step_over

-- ---- where nothing is written

pub none_where : (holds : Bool) (writes : List Write) → (holds ≡ true → writes ≡ []) → where_so holds writes ≡ []
none_where true writes none = none refl
none_where false writes none = refl

step_same : (r c : ℕ) (o : Option ℕ) → (if option_eq (λ a b. a == b) o o then [] else written_at r c o) ≡ []
step_same r c None = refl
step_same r c (Some x) = ap (λ b. if b then [] else written_at r c (Some x)) (eq-eqb x x refl)

pub no_step : (table : Spanned) (r c : ℕ) → became table r c ≡ table.shown (Place.Cross r c) → corner_step table r c ≡ []
unfolding corner_step
no_step table r c same =
    (λ i. if option_eq (λ a b. a == b) (same i) (table.shown (Place.Cross r c)) then [] else written_at r c (same i)) ∙ step_same r c (table.shown (Place.Cross r c))

-- each crossing of drawn lines has its character already
abbrev pub AllJoined : Spanned → (ℕ → Bool) → (ℕ → Bool) → Type 0
AllJoined table horizontal vertical = (r c : ℕ) → r < table.shape.0 + 1 → c < table.shape.1 + 1 → horizontal r ≡ true → vertical c ≡ true → became table r c ≡ table.shown (Place.Cross r c)

pub none_joined : (table : Spanned) (horizontal vertical : ℕ → Bool) → AllJoined table horizontal vertical → joined_corners table horizontal vertical ≡ []
unfolding joined_corners line_joined
none_joined table horizontal vertical all =
    none_below (line_joined table horizontal vertical) (table.shape.0 + 1) (λ r row.
    none_where (horizontal r) (flat_map (λ c. where_so (vertical c) (corner_step table r c)) (below (table.shape.1 + 1))) (λ across.
    none_below (λ c. where_so (vertical c) (corner_step table r c)) (table.shape.1 + 1) (λ c col.
    none_where (vertical c) (corner_step table r c) (λ down. no_step table r c (all r c row col across down)))))

-- ---- joined twice

-- the edges are not written
edges_stay : (table : Spanned) (writes : List Write) (r c : ℕ) → edges_at (after_writes table writes) r c ≡ edges_at table r c
unfolding left_edge top_edge is_left_hidden is_top_hidden
edges_stay table writes r c = refl

pub joined_again : (table : Spanned) (writes : List Write) (r c : ℕ) → written_over writes table.shown (Place.Cross r c) ≡ became table r c → became (after_writes table writes) r c ≡ (after_writes table writes).shown (Place.Cross r c)
unfolding became
joined_again table writes r c is =
    (λ i. joined (is i) (edges_stay table writes r c i)) ∙ twice (table.shown (Place.Cross r c)) (edges_at table r c) ∙ sym is

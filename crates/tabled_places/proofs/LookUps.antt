-- What the value of a place and the drawing of a line come to, level by level.
use Rattle.std.proofs.Common.{◌≡◌, ℕ, Bool, true, false, cond, ◌&&◌, ◌||◌, Option, Some, None, is_some, List, [], ◌∷◌, refl, sym, ap, ◌∙◌, ◌-◌, option_and_then, inl, inr, option_map}
use Rattle.tabled_places.specs.declared.borders.Borders.{Borders}
use Rattle.tabled_places.specs.declared.place.Place.{Place}
use Rattle.tabled_places.specs.declared.place.LineOf.{LineOf}
use Rattle.tabled_places.specs.Site.{Direction, Horizontal, Vertical, Rank, first, inner, last, stands, Class, edges, crossings, main_edges, horizontal_meeting, vertical_meeting, rank, the_default, of_class, of_line, at_spot, Crossing, class_value}
use Rattle.tabled_places.specs.Event.{sign}
use Rattle.tabled_places.specs.Value.{has_spot, inside, class_at, plain_sites, sites, sign_or, first_sign, value, plain_value}
use Rattle.tabled_places.specs.Drawn.{draws}
use Rattle.std.specs.FinMap.{get}
use Rattle.std.proofs.lemmas.Bool.{and_parts, and_from, or_cases, or_left, or_right}
use Rattle.tabled_places.specs.Reading.{pick, main_of, plain_edge, plain_crossing, edge_shown}
use Rattle.tabled_places.specs.Calls.{edge_of}
use Rattle.tabled_object.specs.declared.offset.Offset.{Offset}
use Rattle.tabled_places.specs.State.{State, state_at, edge_place, line_classes, has_class, rank_draws}

-- every class of the list draws the line
abbrev pub AllDraw : ℕ → LineOf → List Class → Type 0
AllDraw count line [] = Unit {0}
AllDraw count line (c ∷ cs) = (draws count line (of_class c) ≡ true) × AllDraw count line cs

-- a place outside has nothing
pub value_outside : {T : Type 0} (state : State T) (shape : ℕ × ℕ) (size : ℕ) (place : Place) → inside shape size place ≡ false → value (state_at state) shape size place ≡ None
unfolding value
value_outside state shape size place h = ap (λ b. cond b (first_sign (state_at state) (sites shape size place)) None) h

sign_or-sign : {T : Type 0} (o r : Option T) → sign_or (option_map sign o) r ≡ pick o r
sign_or-sign None r = refl
sign_or-sign (Some x) r = refl

-- what a field of a custom line has, if the line is there
sign_or-field : {L T : Type 0} (field : L → Option T) (o : Option L) (r : Option T) → sign_or (option_and_then (λ line. option_map sign (field line)) o) r ≡ pick (option_and_then field o) r
sign_or-field field None r = refl
sign_or-field field (Some line) r = sign_or-sign (field line) r

pick-none : {T : Type 0} (o : Option T) → pick o None ≡ o
pick-none None = refl
pick-none (Some x) = refl

-- the place of an edge of a line, of the lines 0 to count of its direction
abbrev pub place_on : LineOf → ℕ → ℕ → Place
place_on (LineOf.Horizontal r) c n = Place.Horizontal r c n
place_on (LineOf.Vertical c) r n = Place.Vertical r c n

abbrev pub of_line_count : ℕ × ℕ → LineOf → ℕ
of_line_count shape (LineOf.Horizontal r) = shape.0
of_line_count shape (LineOf.Vertical c) = shape.1

module _ {T : Type 0} (k : State T) where
  last_levels : (class_has : Option T) → sign_or (option_map sign class_has) (sign_or (option_map sign k.default_value) None) ≡ pick class_has k.default_value
  last_levels class_has = sign_or-sign class_has (sign_or (option_map sign k.default_value) None) ∙ ap (pick class_has) (sign_or-sign k.default_value None ∙ pick-none k.default_value)

  -- what the sites below the offsets have, for each kind of place
  main_level : (line : LineOf) (rest : Option T) → sign_or (state_at k (of_line line main_edges)) rest ≡ pick (main_of k line) rest
  main_level (LineOf.Horizontal n) rest = sign_or-field (λ line. line.main) (get k.horizontal_lines n) rest
  main_level (LineOf.Vertical n) rest = sign_or-field (λ line. line.main) (get k.vertical_lines n) rest

  plain_levels : (line : LineOf) (at : ℕ) (class : Class) → first_sign (state_at k) (at_spot (edge_of line at) ∷ of_line line main_edges ∷ of_class class ∷ the_default ∷ []) ≡ pick (get k.cells (edge_of line at)) (pick (main_of k line) (pick (class_value class k.class_record) k.default_value))
  plain_levels line at class =
      sign_or-sign (get k.cells (edge_of line at)) _
      ∙ ap (pick (get k.cells (edge_of line at))) (main_level line _ ∙ ap (pick (main_of k line)) (last_levels (class_value class k.class_record)))

  pub plain-edge : (shape : ℕ × ℕ) (line : LineOf) (at n : ℕ) → first_sign (state_at k) (plain_sites shape (place_on line at n)) ≡ plain_edge k line (of_line_count shape line) at
  plain-edge shape (LineOf.Horizontal r) c n = plain_levels (LineOf.Horizontal r) c (class_at shape (Place.Horizontal r c n))
  plain-edge shape (LineOf.Vertical c) r n = plain_levels (LineOf.Vertical c) r (class_at shape (Place.Vertical r c n))

  pub plain-crossing : (rows cols r c : ℕ) → first_sign (state_at k) (plain_sites (rows, cols) (Place.Cross r c)) ≡ plain_crossing k rows cols r c
  plain-crossing rows cols r c =
      sign_or-sign (get k.cells (Crossing r c)) _
      ∙ ap (pick (get k.cells (Crossing r c))) (sign_or-field (horizontal_meeting (rank cols c)) (get k.horizontal_lines r) _
      ∙ ap (pick (option_and_then (horizontal_meeting (rank cols c)) (get k.horizontal_lines r))) (sign_or-field (vertical_meeting (rank rows r)) (get k.vertical_lines c) _
      ∙ ap (pick (option_and_then (vertical_meeting (rank rows r)) (get k.vertical_lines c))) (last_levels (class_value (class_at (rows, cols) (Place.Cross r c)) k.class_record))))

  -- the value of each kind of place inside
  pub value-edge : (shape : ℕ × ℕ) (size : ℕ) (line : LineOf) (at n : ℕ) → inside shape size (place_on line at n) ≡ true → value (state_at k) shape size (place_on line at n) ≡ edge_shown k line (of_line_count shape line) at n size
  unfolding value
  value-edge shape size (LineOf.Horizontal r) c n h =
      ap (λ b. cond b (first_sign (state_at k) (sites shape size (Place.Horizontal r c n))) None) h
      ∙ sign_or-sign (get k.horizontal_offsets (edge_place r c (Offset.Start n))) _
      ∙ ap (pick (get k.horizontal_offsets (edge_place r c (Offset.Start n)))) (sign_or-sign (get k.horizontal_offsets (edge_place r c (Offset.End (size - 1 - n)))) _
      ∙ ap (pick (get k.horizontal_offsets (edge_place r c (Offset.End (size - 1 - n))))) (plain-edge shape (LineOf.Horizontal r) c n))
  value-edge shape size (LineOf.Vertical c) r n h =
      ap (λ b. cond b (first_sign (state_at k) (sites shape size (Place.Vertical r c n))) None) h
      ∙ sign_or-sign (get k.vertical_offsets (edge_place r c (Offset.Start n))) _
      ∙ ap (pick (get k.vertical_offsets (edge_place r c (Offset.Start n)))) (sign_or-sign (get k.vertical_offsets (edge_place r c (Offset.End (size - 1 - n)))) _
      ∙ ap (pick (get k.vertical_offsets (edge_place r c (Offset.End (size - 1 - n))))) (plain-edge shape (LineOf.Vertical c) r n))

  pub value-crossing : (rows cols size r c : ℕ) → inside (rows, cols) size (Place.Cross r c) ≡ true → value (state_at k) (rows, cols) size (Place.Cross r c) ≡ plain_crossing k rows cols r c
  unfolding value
  value-crossing rows cols size r c h =
      ap (λ b. cond b (first_sign (state_at k) (sites (rows, cols) size (Place.Cross r c))) None) h ∙ plain-crossing rows cols r c

pub is_some-sign : {T : Type 0} (o : Option T) → is_some (option_map sign o) ≡ is_some o
is_some-sign None = refl
is_some-sign (Some x) = refl

-- the line of that direction and number
unfoldable pub line_of : Direction → ℕ → LineOf
line_of Horizontal n = LineOf.Horizontal n
line_of Vertical n = LineOf.Vertical n

-- whether a test holds for a rank that line n has, of the lines 0 to count
module _ (test : Rank → Bool) where
  abbrev at_ranks : ℕ → ℕ → Bool
  at_ranks count n = (stands first count n && test first) || (stands last count n && test last) || (stands inner count n && test inner)

  ranked : (count n : ℕ) (rank : Rank) → (stands rank count n && test rank) ≡ true → (r : Rank) × (stands r count n ≡ true) × (test r ≡ true)
  ranked count n rank h = let parts = and_parts (stands rank count n) (test rank) h in (rank, parts.0, parts.1)

  pub some_rank : (count n : ℕ) → at_ranks count n ≡ true → (rank : Rank) × (stands rank count n ≡ true) × (test rank ≡ true)
  some_rank count n h =
      elim (or_cases ((stands first count n && test first) || (stands last count n && test last)) (stands inner count n && test inner) h) [
        | inl outer ↦ elim (or_cases (stands first count n && test first) (stands last count n && test last) outer) [
          | inl e ↦ ranked count n first e
          | inr e ↦ ranked count n last e
        ]
        | inr e ↦ ranked count n inner e
      ]

  pub by_rank : (rank : Rank) (count n : ℕ) → stands rank count n ≡ true → test rank ≡ true → at_ranks count n ≡ true
  by_rank first count n e f = or_left _ _ (or_left _ _ (and_from (stands first count n) _ e f))
  by_rank last count n e f = or_left _ _ (or_right (stands first count n && test first) _ (and_from (stands last count n) _ e f))
  by_rank inner count n e f = or_right ((stands first count n && test first) || (stands last count n && test last)) _ (and_from (stands inner count n) _ e f)

module _ {T : Type 0} (borders : Borders T) where
  -- one of the classes has a field, and they all draw the line
  pub drawing : (count : ℕ) (line : LineOf) (cs : List Class) → AllDraw count line cs → has_class borders cs ≡ true → (c : Class) × (draws count line (of_class c) ≡ true) × (is_some (class_value c borders) ≡ true)
  drawing count line [] all h = absurd cc
  drawing count line (c ∷ cs) all h =
      elim (or_cases (is_some (class_value c borders)) (has_class borders cs) h) [
        | inl e ↦ (c, all.0, e)
        | inr e ↦ drawing count line cs all.1 e
      ]

  -- the classes of the lines of a rank draw each of them
  pub all_draw : (d : Direction) (rank : Rank) (count n : ℕ) → stands rank count n ≡ true → AllDraw count (line_of d n) (line_classes d rank)
  unfolding line_of
  all_draw Horizontal rank count n e = (e, (e, (e, (e, tt))))
  all_draw Vertical rank count n e = (e, (e, (e, (e, tt))))

  given_edge : (d : Direction) (rank : Rank) → is_some (class_value (edges d rank) borders) ≡ true → has_class borders (line_classes d rank) ≡ true
  given_edge Horizontal rank e = or_left (is_some (class_value (edges Horizontal rank) borders)) _ e
  given_edge Vertical rank e = or_left (is_some (class_value (edges Vertical rank) borders)) _ e

  given_horizontal : (row col : Rank) → is_some (class_value (crossings row col) borders) ≡ true → has_class borders (line_classes Horizontal row) ≡ true
  given_horizontal row first e = or_right (is_some (class_value (edges Horizontal row) borders)) _ (or_left _ _ e)
  given_horizontal row inner e = or_right (is_some (class_value (edges Horizontal row) borders)) _ (or_right (is_some (class_value (crossings row first) borders)) _ (or_left _ _ e))
  given_horizontal row last e = or_right (is_some (class_value (edges Horizontal row) borders)) _ (or_right (is_some (class_value (crossings row first) borders)) _ (or_right (is_some (class_value (crossings row inner) borders)) _ (or_left _ _ e)))

  given_vertical : (row col : Rank) → is_some (class_value (crossings row col) borders) ≡ true → has_class borders (line_classes Vertical col) ≡ true
  given_vertical first col e = or_right (is_some (class_value (edges Vertical col) borders)) _ (or_left _ _ e)
  given_vertical inner col e = or_right (is_some (class_value (edges Vertical col) borders)) _ (or_right (is_some (class_value (crossings first col) borders)) _ (or_left _ _ e))
  given_vertical last col e = or_right (is_some (class_value (edges Vertical col) borders)) _ (or_right (is_some (class_value (crossings first col) borders)) _ (or_right (is_some (class_value (crossings inner col) borders)) _ (or_left _ _ e)))

  -- a class that draws a line and has a field is one of those of the line's rank
  pub class_draws_it : (d : Direction) (count n : ℕ) (c : Class) → draws count (line_of d n) (of_class c) ≡ true → is_some (class_value c borders) ≡ true → rank_draws borders count d n ≡ true
  unfolding line_of
  class_draws_it Horizontal count n (edges Horizontal rank) e f = by_rank (λ r. has_class borders (line_classes Horizontal r)) rank count n e (given_edge Horizontal rank f)
  class_draws_it Horizontal count n (crossings row col) e f = by_rank (λ r. has_class borders (line_classes Horizontal r)) row count n e (given_horizontal row col f)
  class_draws_it Vertical count n (edges Vertical rank) e f = by_rank (λ r. has_class borders (line_classes Vertical r)) rank count n e (given_edge Vertical rank f)
  class_draws_it Vertical count n (crossings row col) e f = by_rank (λ r. has_class borders (line_classes Vertical r)) col count n e (given_vertical row col f)
  class_draws_it d count n c e f = absurd cc

-- an edge or a crossing outside has no plain value
pub plain_outside : {T : Type 0} (state : State T) (shape : ℕ × ℕ) (place : Place) → has_spot shape place ≡ false → plain_value (state_at state) shape place ≡ None
unfolding plain_value
plain_outside state shape place h = ap (λ b. cond b (first_sign (state_at state) (plain_sites shape place)) None) h

-- one inside has what its sites have
plain_inside : {T : Type 0} (state : State T) (shape : ℕ × ℕ) (place : Place) → has_spot shape place ≡ true → plain_value (state_at state) shape place ≡ first_sign (state_at state) (plain_sites shape place)
unfolding plain_value
plain_inside state shape place h = ap (λ b. cond b (first_sign (state_at state) (plain_sites shape place)) None) h

-- the plain value of each kind, from what was read
pub plain_at_edge : {T : Type 0} (k : State T) (shape : ℕ × ℕ) (place : Place) (line : LineOf) (at n : ℕ) (o : Option T) → place ≡ place_on line at n → has_spot shape place ≡ true → o ≡ plain_edge k line (of_line_count shape line) at → o ≡ plain_value (state_at k) shape place
plain_at_edge k shape place line at n o e h is =
    is ∙ sym (plain_inside k shape place h ∙ ap (λ p. first_sign (state_at k) (plain_sites shape p)) e ∙ plain-edge k shape line at n)

pub plain_at_crossing : {T : Type 0} (k : State T) (shape : ℕ × ℕ) (place : Place) (r c : ℕ) (o : Option T) → place ≡ Place.Cross r c → has_spot shape place ≡ true → o ≡ plain_crossing k shape.0 shape.1 r c → o ≡ plain_value (state_at k) shape place
plain_at_crossing k shape place r c o e h is =
    is ∙ sym (plain_inside k shape place h ∙ ap (λ p. first_sign (state_at k) (plain_sites shape p)) e ∙ plain-crossing k shape.0 shape.1 r c)

-- the value of a place of each kind, from what was read
pub at_edge : {T : Type 0} (k : State T) (shape : ℕ × ℕ) (size : ℕ) (place : Place) (line : LineOf) (at n : ℕ) (o : Option T) → place ≡ place_on line at n → inside shape size place ≡ true → o ≡ edge_shown k line (of_line_count shape line) at n size → o ≡ value (state_at k) shape size place
at_edge k shape size place line at n o e h is =
    is ∙ sym (value-edge k shape size line at n (sym (ap (inside shape size) e) ∙ h)) ∙ sym (ap (value (state_at k) shape size) e)

pub at_crossing : {T : Type 0} (k : State T) (shape : ℕ × ℕ) (size : ℕ) (place : Place) (r c : ℕ) (o : Option T) → place ≡ Place.Cross r c → inside shape size place ≡ true → o ≡ plain_crossing k shape.0 shape.1 r c → o ≡ value (state_at k) shape size place
at_crossing k shape size place r c o e h is =
    is ∙ sym (value-crossing k shape.0 shape.1 size r c (sym (ap (inside shape size) e) ∙ h)) ∙ sym (ap (value (state_at k) shape size) e)

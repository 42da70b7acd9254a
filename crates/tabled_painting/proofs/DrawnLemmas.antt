-- Which lines are drawn, one more, and past the last one.
use Rattle.std.proofs.Common.{◌≡◌, ℕ, ◌+◌, ◌<◌, ◌≤◌, ◌↔◌, ◌&&◌, Bool, true, false, nat_le, IsTrue, List, [], ◌∷◌, ◌++◌, map, length, get_or, refl, sym, ap, ◌∙◌, arith}
use Rattle.std.specs.Prelude.{slice_index, slice_index_or}
use Rattle.std.specs.List.{range_with_len}
use Rattle.std.proofs.lemmas.Bool.Decides.{nat_tests}
use Rattle.std.proofs.lemmas.List.{get_or_past}
use Rattle.std.proofs.lemmas.List.FromFn.{map-range_with_len_more, get_or-map-range_with_len, length-map-range_with_len}
use Rattle.tabled_object.specs.Entities.{below}
use Rattle.tabled_places.specs.Drawn.{Drawn, drawn}
use Rattle.tabled_places.specs.State.{state_at}
use Rattle.tabled_places.specs.declared.event.Event.{Event}
use Rattle.tabled_places.specs.declared.place.LineOf.{LineOf}
use Rattle.tabled_places.specs.declared.site.Direction.{Direction}
use Rattle.tabled_places.specs.declared.site.Direction.TheVariants.{Horizontal, Vertical}
use Rattle.tabled_configuration.specs.Configuration.{Configuration, all_writes, characters_of}
use Rattle.tabled_printing.proofs.LookLemmas.{own_drawn}
use Rattle.tabled_rooms.specs.Rooms.{first_line}
use Rattle.tabled_painting.specs.RoomLines.{line_in}

and_false : (a b : Bool) → a ≡ false → a && b ≡ false
and_false a b e = ap (λ first. first && b) e

-- a line past the last one is not drawn
drawn_past : {T : Type 0} (es : List (Event T)) (direction : Direction) (count n : ℕ) → count < n → drawn es count (line_in direction n) ≡ false
unfolding drawn
drawn_past es Horizontal count n past = let test : nat_le n count ≡ false = grind (arith, nat_tests) in and_false (nat_le n count) _ test
drawn_past es Vertical count n past = let test : nat_le n count ≡ false = grind (arith, nat_tests) in and_false (nat_le n count) _ test

module _ (cfg : Configuration) (direction : Direction) (count : ℕ) where
  abbrev pub is_drawn : ℕ → Bool
  is_drawn n = drawn (characters_of (all_writes cfg)) count (line_in direction n)

  pub answer_more : (n : ℕ) (old new : List Bool) (line : LineOf) (answer : Bool) → old ≡ map is_drawn (below n) → line ≡ line_in direction n → IsTrue answer ↔ Drawn (state_at cfg.characters) count line
      → new ≡ old ++ answer ∷ [] → new ≡ map is_drawn (below (n + 1))
  answer_more n old new line answer made at says pushed =
      pushed ∙ (λ i. made i ++ (own_drawn cfg count line answer says ∙ ap (drawn (characters_of (all_writes cfg)) count) at) i ∷ [])
      ∙ sym (map-range_with_len_more is_drawn 0 n n (omega arith))

  -- a list of the answers up to the last one has them all
  answer_at : (answers : List Bool) → answers ≡ map is_drawn (below (count + 1)) → (n : ℕ) → slice_index_or answers n false ≡ is_drawn n
  answer_at answers made n = ap (λ xs. slice_index_or xs n false) made ∙ by_place (nat_le n count) refl
    where
      by_place : (b : Bool) → nat_le n count ≡ b → get_or (map is_drawn (below (count + 1))) n false ≡ is_drawn n
      by_place true e = let within : n < count + 1 = grind (arith, nat_tests) in get_or-map-range_with_len is_drawn 0 (count + 1) n n false within (omega arith)
      by_place false e =
          let beyond : count < n = grind (arith, nat_tests) in
          get_or_past (map is_drawn (below (count + 1))) n false (let long = length-map-range_with_len is_drawn 0 (count + 1) in omega (arith, long))
          ∙ sym (drawn_past (characters_of (all_writes cfg)) direction count n beyond)

  pub answers_are : (n : ℕ) (old new : List Bool) (line : LineOf) (answer : Bool) → n ≡ count → old ≡ map is_drawn (below n) → line ≡ line_in direction count → IsTrue answer ↔ Drawn (state_at cfg.characters) count line
      → new ≡ old ++ answer ∷ [] → (length new ≡ count + 1) × ((n : ℕ) → slice_index_or new n false ≡ is_drawn n)
  answers_are n old new line answer all made at says pushed =
      let whole = answer_more count old new line answer (made ∙ ap (λ n. map is_drawn (below n)) all) at says pushed in
      (ap length whole ∙ length-map-range_with_len is_drawn 0 (count + 1), answer_at new whole)

-- the lines at which rows begin, by the answers
pub firsts_are : (heights given firsts : List ℕ) (drawn answers : List Bool) (line : ℕ → Bool) (rows : ℕ) → given ≡ heights → answers ≡ drawn → ((n : ℕ) → slice_index_or drawn n false ≡ line n) → length heights ≡ rows
    → firsts ≡ map (first_line (slice_index given) (λ r. slice_index_or answers r false)) (range_with_len 0 (length given + 1)) → firsts ≡ map (first_line (slice_index heights) line) (range_with_len 0 (rows + 1))
firsts_are heights given firsts drawn answers line rows is_given is_answers shown count are =
    are
    ∙ (λ i. map (first_line (slice_index (is_given i)) (λ r. (ap (λ xs. slice_index_or xs r false) is_answers ∙ shown r) i)) (range_with_len 0 ((ap length is_given ∙ count) i + 1)))

pub first_of : (f : ℕ → ℕ) (rows r : ℕ) (firsts : List ℕ) → firsts ≡ map f (range_with_len 0 (rows + 1)) → r ≤ rows → slice_index firsts r ≡ f r
first_of f rows r firsts are within = ap (λ xs. slice_index xs r) are ∙ get_or-map-range_with_len f 0 (rows + 1) r r 0 (omega (arith, within)) (omega arith)

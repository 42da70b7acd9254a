-- Where wide cells begin and end.
use Rattle.std.proofs.lemmas.Bool.Decides.{nat_tests}
use Rattle.std.proofs.Common.{◌≡◌, ℕ, suc, ◌+◌, ◌-◌, ◌<◌, ◌≤◌, Bool, true, false, not, ◌&&◌, cond, List, [], ◌∷◌, ◌++◌, map, length, get_or, take, drop, refl, ap, subst, arith}
use Rattle.std.proofs.Math.Bool.{and-true}
use Rattle.std.specs.List.{filter, find, list_all, range_with_len}
use Rattle.std.specs.Option.{option_map, unwrap_or}
use Rattle.std.specs.Str.{IsCharBoundary}
use Rattle.std.proofs.lemmas.Bool.{and_parts, not-false}
use Rattle.std.proofs.lemmas.Grind.{common_steps, get_or_default_zero}
use Rattle.std.proofs.lemmas.List.{drop-append-le, drop_all, drop_more, map-id, take_more}
use Rattle.std.proofs.lemmas.List.Folds.{list_all-append}
use Rattle.std.proofs.lemmas.List.FromFn.{filter_of_map_range_with_len_more}
use Rattle.std.proofs.lemmas.List.Sums.{prefix_len-le-length, prefix_len_stops}
use Rattle.tabled_input.specs.Spaced.{begins_wide, cell_len, is_blank, is_letter, wide_len, wide_places}
use Rattle.tabled_input.proofs.Edges.{IsStop, at_stop}

-- ---- where one ends

pub wide_at : (line : List ℕ) (at : ℕ) → at < length line → wide_len (drop at line) ≡ cond (list_all is_blank (take 2 (drop at line))) 0 (1 + wide_len (drop (at + 1) line))
unfolding wide_len
wide_at line at inside = rw (drop_more line at 0 inside)

pub ends_last : (line : List ℕ) (at : ℕ) → length line ≤ at → wide_len (drop at line) ≡ 0
unfolding wide_len
ends_last line at past = ap wide_len (drop_all at line past)

wide_stops : (line : List ℕ) → IsStop line (wide_len line)
unfolding wide_len
wide_stops [] = (omega arith, λ h. absurd (omega (arith, h)))
wide_stops (c ∷ line) = by (wide_stops line) (list_all is_blank (take 2 (c ∷ line))) refl
  where
    by : IsStop line (wide_len line) → (b : Bool) → list_all is_blank (take 2 (c ∷ line)) ≡ b → IsStop (c ∷ line) (cond b 0 (1 + wide_len line))
    by rest true e = (omega arith, λ h. (and_parts (is_blank c) (list_all is_blank (take 1 line)) e).0)
    by rest false e = subst (IsStop (c ∷ line)) (let next : suc (wide_len line) ≡ 1 + wide_len line = omega arith in next) (omega (arith, rest.0), λ h. rest.1 (omega (arith, h)))

-- a wide cell, or a word
pub cell_stops : (is_wide : Bool) (line : List ℕ) → IsStop line (cell_len is_wide line)
cell_stops true line = wide_stops line
cell_stops false line = (prefix_len-le-length is_letter line, λ h. not-false _ (prefix_len_stops is_letter line 0 h))

pub after_first : (is_wide : Bool) (line : List ℕ) → IsCharBoundary line (cell_len is_wide line)
after_first is_wide line = at_stop line (cell_len is_wide line) (cell_stops is_wide line)

-- ---- where one begins

places_more : (test : ℕ → Bool) (at : ℕ) → filter test (range_with_len 0 (at + 1)) ≡ filter test (range_with_len 0 at) ++ cond (test at) (at ∷ []) []
places_more test at = simp map-id at (filter_of_map_range_with_len_more test (λ k. k) 0 at at (omega arith))

-- the characters from a place on, with one more at their end
ending : (cs : List ℕ) (n at c : ℕ) → at < length cs → c ≡ get_or cs at c → n ≤ at → list_all is_blank (drop n (take (at + 1) cs)) ≡ (list_all is_blank (drop n (take at cs)) && is_blank c)
ending cs n at c inside is within = grind (arith, common_steps, take_more, drop-append-le, list_all-append, and-true)

pub last_one : (cs : List ℕ) (at c : ℕ) → at < length cs → c ≡ get_or cs at c → is_blank c ≡ list_all is_blank (drop (at + 1 - 1) (take (at + 1) cs))
last_one cs at c inside is = grind (arith, nat_tests, common_steps)

pub last_two : (cs : List ℕ) (at c : ℕ) (before : Bool) → at < length cs → c ≡ get_or cs at c → before ≡ list_all is_blank (drop (at - 1) (take at cs)) → (before && is_blank c) ≡ list_all is_blank (drop (at + 1 - 2) (take (at + 1) cs))
last_two cs at c before inside is e = grind (arith, nat_tests, common_steps)

pub begins : (cs : List ℕ) (at c : ℕ) (gap blank : Bool) → at < length cs → c ≡ get_or cs at c → gap ≡ list_all is_blank (drop (at - 2) (take at cs)) → blank ≡ is_blank c → begins_wide cs at ≡ (gap && not blank)
begins cs at c gap blank inside is e f = grind (arith, common_steps, get_or_default_zero)

pub place_added : (test : ℕ → Bool) (at place : ℕ) (places : List ℕ) → test at ≡ true → place ≡ at → places ≡ filter test (range_with_len 0 at) → places ++ place ∷ [] ≡ filter test (range_with_len 0 (at + 1))
place_added test at place places e f so_far = grind (arith, common_steps, places_more)

pub place_passed : (test : ℕ → Bool) (at : ℕ) (places : List ℕ) → test at ≡ false → places ≡ filter test (range_with_len 0 at) → places ≡ filter test (range_with_len 0 (at + 1))
place_passed test at places e so_far = grind (arith, common_steps, places_more)

-- ---- the first line

-- its places, and none where no line passes
pub first_of : (test : List ℕ → Bool) (lines : List (List ℕ)) → get_or (map wide_places (filter test lines)) 0 [] ≡ unwrap_or (option_map wide_places (find test lines)) []
first_of test [] = refl
first_of test (line ∷ lines) = grind (arith, common_steps, first_of test lines)

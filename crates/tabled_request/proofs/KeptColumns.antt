-- Columns of which some are kept.
use Rattle.std.proofs.Common.{◌≡◌, ℕ, zero, suc, ◌+◌, ◌-◌, ◌<◌, ◌≤◌, min, Bool, true, false, not, ◌||◌, ◌==◌, cond, ⊎_elim, List, [], ◌∷◌, ◌++◌, append_assoc, append-nil, nat_le, length, map, Some, None, refl, sym, ap, ◌∙◌, arith}
use Rattle.std.specs.List.{filter, list_any, range_with_len}
use Rattle.std.proofs.lemmas.Bool.{cases_lt, ne_eqb}
use Rattle.std.proofs.lemmas.Bool.Decides.{nat_tests}
use Rattle.std.proofs.lemmas.List.Elements.{filter-append}
use Rattle.std.proofs.lemmas.List.FromFn.{length-range_with_len}
use Rattle.std.proofs.lemmas.List.{length-map}
use Rattle.std.proofs.lemmas.Option.{slice_get_past}
use Rattle.std.specs.Str.{bytes_eq}
use Rattle.tabled_request.specs.Columns.{has_heading, is_in}

range_in_two : (a n m : ℕ) → range_with_len a (n + m) ≡ range_with_len a n ++ range_with_len (a + n) m
range_in_two a zero m =
    let none : 0 + m ≡ m = omega arith in
    let here : a ≡ a + 0 = omega arith in
    ap (range_with_len a) none ∙ ap (λ b. range_with_len b m) here
range_in_two a (suc n) m =
    let more : suc n + m ≡ suc (n + m) = omega arith in
    let there : a + 1 + n ≡ a + suc n = omega arith in
    ap (range_with_len a) more ∙ ap (λ rest. a ∷ rest) (range_in_two (a + 1) n m ∙ ap (λ b. range_with_len (a + 1) n ++ range_with_len b m) there)

pub range_more : (a n j : ℕ) → a + n ≡ j → range_with_len a (n + 1) ≡ range_with_len a n ++ j ∷ []
range_more a n j e = range_in_two a n 1 ∙ ap (λ b. range_with_len a n ++ b ∷ []) e

first_kept : (p : ℕ → Bool) (x : ℕ) (xs : List ℕ) → p x ≡ true → filter p (x ∷ xs) ≡ x ∷ filter p xs
first_kept p x xs e = ap (λ b. cond b (x ∷ filter p xs) (filter p xs)) e

first_left : (p : ℕ → Bool) (x : ℕ) (xs : List ℕ) → p x ≡ false → filter p (x ∷ xs) ≡ filter p xs
first_left p x xs e = ap (λ b. cond b (x ∷ filter p xs) (filter p xs)) e

none_kept : (p : ℕ → Bool) (a n : ℕ) → ((k : ℕ) → a ≤ k → k < a + n → p k ≡ false) → filter p (range_with_len a n) ≡ []
none_kept p a zero h = refl
none_kept p a (suc n) h =
    first_left p a (range_with_len (a + 1) n) (h a (omega arith) (omega arith)) ∙ none_kept p (a + 1) n (λ k from below. h k (omega arith) (omega arith))

all_kept : (p : ℕ → Bool) (a n : ℕ) → ((k : ℕ) → a ≤ k → k < a + n → p k ≡ true) → filter p (range_with_len a n) ≡ range_with_len a n
all_kept p a zero h = refl
all_kept p a (suc n) h =
    first_kept p a (range_with_len (a + 1) n) (h a (omega arith) (omega arith))
    ∙ ap (λ rest. a ∷ rest) (all_kept p (a + 1) n (λ k from below. h k (omega arith) (omega arith)))

-- those from a number on are left out
pub kept_below : (p : ℕ → Bool) (n count : ℕ) → n ≤ count → ((k : ℕ) → n ≤ k → k < count → p k ≡ false) → filter p (range_with_len 0 count) ≡ filter p (range_with_len 0 n)
kept_below p n count within h =
    let whole : count ≡ n + (count - n) = omega arith in
    ap (λ c. filter p (range_with_len 0 c)) whole ∙ ap (filter p) (range_in_two 0 n (count - n))
    ∙ filter-append p (range_with_len 0 n) (range_with_len (0 + n) (count - n))
    ∙ ap (λ rest. filter p (range_with_len 0 n) ++ rest) (none_kept p (0 + n) (count - n) (λ k from below. h k (omega arith) (omega arith)))
    ∙ append-nil (filter p (range_with_len 0 n))

-- those from one number on to another are kept, where there are any
some_between : (p : ℕ → Bool) (from to : ℕ) → from ≤ to → ((k : ℕ) → k < from → p k ≡ false) → ((k : ℕ) → from ≤ k → k < to → p k ≡ true)
    → filter p (range_with_len 0 to) ≡ range_with_len from (to - from)
some_between p from to order before inside =
    let whole : to ≡ from + (to - from) = omega arith in
    let there : 0 + from ≡ from = omega arith in
    ap (λ c. filter p (range_with_len 0 c)) whole ∙ ap (filter p) (range_in_two 0 from (to - from))
    ∙ filter-append p (range_with_len 0 from) (range_with_len (0 + from) (to - from))
    ∙ ap (λ front. front ++ filter p (range_with_len (0 + from) (to - from))) (none_kept p 0 from (λ k low below. before k (omega arith)))
    ∙ all_kept p (0 + from) (to - from) (λ k low below. inside k (omega arith) (omega arith))
    ∙ ap (λ a. range_with_len a (to - from)) there

-- the columns of a range
in_range : (first last k : ℕ) → first - 1 ≤ k → k < last → is_in (first, last) k ≡ true
in_range first last k low below = grind (arith, nat_tests)

before_range : (first last k : ℕ) → k < first - 1 → is_in (first, last) k ≡ false
before_range first last k below = grind (arith, nat_tests)

after_range : (first last k : ℕ) → last ≤ k → is_in (first, last) k ≡ false
after_range first last k past = grind (arith, nat_tests)

pub range_kept : (first last count : ℕ) → filter (is_in (first, last)) (range_with_len 0 count) ≡ range_with_len (first - 1) (min last count - (first - 1))
range_kept first last count =
    let to = min last count in
    kept_below (is_in (first, last)) (min last count) count (omega arith) (λ k past below. after_range first last k (omega arith))
    ∙ ⊎_elim (λ empty.
    none_kept (is_in (first, last)) 0 (min last count) (λ k low below. before_range first last k (omega arith))
    ∙ sym (ap (range_with_len (first - 1)) (the_none first last count empty)))
    (λ order. some_between (is_in (first, last)) (first - 1) (min last count) order (before_range first last) (λ k low below. in_range first last k low (omega arith)))
    (cases_lt (min last count) (first - 1))
  where
    the_none : (first last count : ℕ) → min last count < first - 1 → min last count - (first - 1) ≡ 0
    the_none first last count empty = omega arith

-- one column more
pub kept_one : (p : ℕ → Bool) (old now : List ℕ) (n : ℕ) → now ≡ old ++ filter p (range_with_len 0 n) → p n ≡ true → now ++ n ∷ [] ≡ old ++ filter p (range_with_len 0 (n + 1))
kept_one p old now n e passes =
    ap (λ front. front ++ n ∷ []) e ∙ append_assoc old (filter p (range_with_len 0 n)) (n ∷ [])
    ∙ ap (λ more. old ++ (filter p (range_with_len 0 n) ++ more)) (sym (first_kept p n [] passes))
    ∙ ap (λ rest. old ++ rest) (sym (filter-append p (range_with_len 0 n) (n ∷ [])) ∙ ap (filter p) (sym (range_more 0 n n (omega arith))))

pub left_one : (p : ℕ → Bool) (old now : List ℕ) (n : ℕ) → now ≡ old ++ filter p (range_with_len 0 n) → p n ≡ false → now ≡ old ++ filter p (range_with_len 0 (n + 1))
left_one p old now n e fails =
    e ∙ ap (λ rest. old ++ rest) (sym (append-nil (filter p (range_with_len 0 n))))
    ∙ ap (λ more. old ++ (filter p (range_with_len 0 n) ++ more)) (sym (first_left p n [] fails))
    ∙ ap (λ rest. old ++ rest) (sym (filter-append p (range_with_len 0 n) (n ∷ [])) ∙ ap (filter p) (sym (range_more 0 n n (omega arith))))

pub one_more_from : (old now : List ℕ) (from col : ℕ) → from ≤ col → now ≡ old ++ range_with_len from (col - from) → now ++ col ∷ [] ≡ old ++ range_with_len from (col + 1 - from)
one_more_from old now from col past e =
    let next : col - from + 1 ≡ col + 1 - from = omega arith in
    ap (λ front. front ++ col ∷ []) e ∙ append_assoc old (range_with_len from (col - from)) (col ∷ [])
    ∙ ap (λ rest. old ++ rest) (sym (range_more from (col - from) col (omega arith)) ∙ ap (range_with_len from) next)

-- none is kept where none passes
pub none_passes : (p : ℕ → Bool) (xs : List ℕ) → not (list_any p xs) ≡ (length (filter p xs) == 0)
none_passes p [] = refl
none_passes p (x ∷ xs) = by_first (p x) (none_passes p xs)
  where
    by_first : (b : Bool) → not (list_any p xs) ≡ (length (filter p xs) == 0) → not (b || list_any p xs) ≡ (length (cond b (x ∷ filter p xs) (filter p xs)) == 0)
    by_first true e = sym (ne_eqb (suc (length (filter p xs))) 0 (λ same. omega (arith, same)))
    by_first false e = e

pub any_below : (p : ℕ → Bool) (n count : ℕ) → n ≤ count → ((k : ℕ) → n ≤ k → k < count → p k ≡ false) → list_any p (range_with_len 0 n) ≡ list_any p (range_with_len 0 count)
any_below p n count within h =
    same_not _ _ (none_passes p (range_with_len 0 n) ∙ ap (λ kept. length kept == 0) (sym (kept_below p n count within h)) ∙ sym (none_passes p (range_with_len 0 count)))
  where
    same_not : (a b : Bool) → not a ≡ not b → a ≡ b
    same_not true true e = refl
    same_not false false e = refl
    same_not true false e = absurd (cc)
    same_not false true e = absurd (cc)

-- no number stands between two where the second is not above the first
pub none_between : (from to : ℕ) → nat_le to from ≡ (length (range_with_len from (to - from)) == 0)
none_between from to = tells from to ∙ ap (λ count. count == 0) (sym (length-range_with_len from (to - from)))
  where
    tells : (from to : ℕ) → nat_le to from ≡ ((to - from) == 0)
    tells from to = grind (arith, nat_tests)

-- no column past the headings has one
pub past_headings : (headings : List (List ℕ)) (text : List ℕ) (k : ℕ) → length headings ≤ k → has_heading headings text k ≡ false
past_headings headings text k past = ap (λ found. elim found [ None ↦ false | Some heading ↦ bytes_eq heading text ]) (slice_get_past headings k past)

-- where no column is a heading's but the first, so many, no other one is kept
module _ {T : Type 0} (bytes : T → List ℕ) (headings : List T) (text : List ℕ) (to count : ℕ) (e : to ≡ min (length headings) count) where
  past_all : (k : ℕ) → to ≤ k → k < count → has_heading (map bytes headings) text k ≡ false
  past_all k past below = past_headings (map bytes headings) text k (omega (arith, e, past, below, length-map headings bytes))

  pub headed_kept : filter (has_heading (map bytes headings) text) (range_with_len 0 count) ≡ filter (has_heading (map bytes headings) text) (range_with_len 0 to)
  headed_kept = kept_below (has_heading (map bytes headings) text) to count (omega (arith, e)) past_all

  pub any_headed : list_any (has_heading (map bytes headings) text) (range_with_len 0 to) ≡ list_any (has_heading (map bytes headings) text) (range_with_len 0 count)
  any_headed = any_below (has_heading (map bytes headings) text) to count (omega (arith, e)) past_all

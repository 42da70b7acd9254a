-- The numbers of a range, counted in steps.
use Rattle.std.proofs.Common.{◌≡◌, ℕ, zero, suc, ◌+◌, ◌-◌, ◌%◌, ◌<◌, ◌≤◌, ◌==◌, ◌&&◌, Bool, true, false, nat_lt, nat_le, min, cond, List, [], ◌∷◌, ◌++◌, refl, sym, ap, ◌∙◌, arith, filter, ⊎_elim, append-nil, zero-add, add-zero}
use Rattle.std.specs.List.{range_with_len}
use Rattle.std.specs.Range.Bound.{start_index}
use Rattle.std.specs.declared.ops.Bound.{Bound}
use Rattle.std.proofs.lemmas.Bool.{cases_lt}
use Rattle.std.proofs.lemmas.Bool.Decides.{nat_tests}
use Rattle.std.proofs.lemmas.List.Elements.{filter-append}
use Rattle.std.proofs.Math.Nat.{add-mod_left, mod-eq_of_lt, mod-one, zero-mod}
use mathlib.Core.Bool.{and-false, and-true}
use Rattle.tabled_object.specs.Entities.{below}
use Rattle.tabled_object.specs.Ranges.{contains, is_on_step, contains_step, numbers_in, numbers_on_step, stepped}
use Rattle.tabled_object.proofs.Rectangles.{none_of, some_of}

-- ---- tests along numbers in a row

-- tests that say the same of each of some numbers in a row pick the same ones
same_along : (p q : ℕ → Bool) (a m : ℕ) → ((n : ℕ) → a ≤ n → n < a + m → p n ≡ q n) → filter p (range_with_len a m) ≡ filter q (range_with_len a m)
same_along p q a zero same = refl
same_along p q a (suc m) same =
    let more : filter p (range_with_len (a + 1) m) ≡ filter q (range_with_len (a + 1) m) = same_along p q (a + 1) m (λ n h k. same n (omega arith) (omega arith)) in
    let here : p a ≡ q a = same a (omega arith) (omega arith) in
    λ i. cond (here i) (a ∷ more i) (more i)

none_at_all : (xs : List ℕ) → filter (λ _. false) xs ≡ []
none_at_all [] = refl
none_at_all (x ∷ xs) = none_at_all xs

none_along : (p : ℕ → Bool) (a m : ℕ) → ((n : ℕ) → a ≤ n → n < a + m → p n ≡ false) → filter p (range_with_len a m) ≡ []
none_along p a m none = same_along p (λ _. false) a m none ∙ none_at_all (range_with_len a m)

-- numbers in a row, and those after them
in_two : (a m k : ℕ) → range_with_len a (m + k) ≡ range_with_len a m ++ range_with_len (a + m) k
in_two a zero k = λ i. range_with_len (sym (add-zero a) i) (zero-add k i)
in_two a (suc m) k =
    ap (range_with_len a) {x = suc m + k} {y = suc (m + k)} (omega arith)
    ∙ ap (λ ns. a ∷ ns) (in_two (a + 1) m k)
    ∙ ap (λ b. a ∷ (range_with_len (a + 1) m ++ range_with_len b k)) {x = a + 1 + m} {y = a + suc m} (omega arith)

-- a test that fails before some numbers and after them picks among them
pub between : (p : ℕ → Bool) (s e count : ℕ) → s ≤ e → e ≤ count → ((n : ℕ) → n < s → p n ≡ false) → ((n : ℕ) → e ≤ n → n < count → p n ≡ false)
    → filter p (below count) ≡ filter p (range_with_len s (e - s))
between p s e count h k before after =
    let after_all : filter p (range_with_len e (count - e)) ≡ [] = none_along p e (count - e) (λ n l m. after n l (omega arith)) in
    let before_all : filter p (range_with_len 0 s) ≡ [] = none_along p 0 s (λ n l m. before n (omega arith)) in
    ap (λ n. filter p (range_with_len 0 n)) {x = count} {y = s + ((e - s) + (count - e))} (omega arith)
    ∙ ap (filter p) (in_two 0 s ((e - s) + (count - e)))
    ∙ filter-append p (range_with_len 0 s) (range_with_len (0 + s) ((e - s) + (count - e)))
    ∙ (λ i. before_all i ++ filter p (range_with_len (zero-add s i) ((e - s) + (count - e))))
    ∙ ap (filter p) (in_two s (e - s) (count - e))
    ∙ filter-append p (range_with_len s (e - s)) (range_with_len (s + (e - s)) (count - e))
    ∙ ap (λ b. filter p (range_with_len s (e - s)) ++ filter p (range_with_len b (count - e))) {x = s + (e - s)} {y = e} (omega arith)
    ∙ ap (λ ns. filter p (range_with_len s (e - s)) ++ ns) after_all
    ∙ append-nil (filter p (range_with_len s (e - s)))

-- ---- the numbers of a range

-- a range that has the numbers from s on, below e, has them in steps
pub numbers_counted : (start end : Bound ℕ) (step count s e : ℕ) → 0 < step → s ≤ e → e ≤ count
    → ((n : ℕ) → n < count → contains start end n ≡ (nat_le s n && nat_lt n e)) → (s < e → s ≡ start_index start) → stepped s step e ≡ numbers_on_step start end step count
unfolding stepped numbers_on_step
numbers_counted start end step count s e some h k inside first =
    let test : ℕ → Bool = contains_step start end step in
    let before : (n : ℕ) → n < s → test n ≡ false = λ n l.
    let out : (nat_le s n && nat_lt n e) ≡ false = grind (arith, nat_tests) in
    ap (λ b. b && is_on_step step (n - start_index start)) (inside n (omega arith) ∙ out) in
    let after : (n : ℕ) → e ≤ n → n < count → test n ≡ false = λ n l m.
    let out : (nat_le s n && nat_lt n e) ≡ false = grind (arith, nat_tests) in
    ap (λ b. b && is_on_step step (n - start_index start)) (inside n m ∙ out) in
    let positive : nat_lt 0 step ≡ true = grind (arith, nat_tests) in
    let among : (n : ℕ) → s ≤ n → n < s + (e - s) → test n ≡ ((n - s) % step == 0) = λ n l m.
    let within : (nat_le s n && nat_lt n e) ≡ true = grind (arith, nat_tests) in
    let index = first (omega arith) in
    λ i. (inside n (omega arith) ∙ within) i && (positive i && ((n - sym index i) % step == 0)) in
    sym (between test s e count h k before after ∙ same_along test (λ n. (n - s) % step == 0) s (e - s) among)

all_of : (xs : List ℕ) → filter (λ _. true) xs ≡ xs
all_of [] = refl
all_of (x ∷ xs) = ap (λ ys. x ∷ ys) (all_of xs)

-- a range that has the numbers from s on, below e, has all of them
pub numbers_in_a_row : (start end : Bound ℕ) (count s e : ℕ) → s ≤ e → e ≤ count → ((n : ℕ) → n < count → contains start end n ≡ (nat_le s n && nat_lt n e))
    → range_with_len s (e - s) ≡ numbers_in start end count
unfolding numbers_in
numbers_in_a_row start end count s e h k inside =
    let before : (n : ℕ) → n < s → contains start end n ≡ false = λ n l. let out : (nat_le s n && nat_lt n e) ≡ false = grind (arith, nat_tests) in inside n (omega arith) ∙ out in
    let after : (n : ℕ) → e ≤ n → n < count → contains start end n ≡ false = λ n l m. let out : (nat_le s n && nat_lt n e) ≡ false = grind (arith, nat_tests) in inside n m ∙ out in
    let among : (n : ℕ) → s ≤ n → n < s + (e - s) → contains start end n ≡ true = λ n l m. let within : (nat_le s n && nat_lt n e) ≡ true = grind (arith, nat_tests) in inside n (omega arith) ∙ within in
    sym (between (contains start end) s e count h k before after ∙ same_along (contains start end) (λ _. true) s (e - s) among ∙ all_of (range_with_len s (e - s)))

-- each number is on a step of 1
pub each_number : (start end : Bound ℕ) (count : ℕ) → numbers_on_step start end 1 count ≡ numbers_in start end count
unfolding numbers_in numbers_on_step
each_number start end count =
    let on : (n : ℕ) → contains_step start end 1 n ≡ contains start end n = λ n. ap (λ r. contains start end n && (r == 0)) (mod-one (n - start_index start)) ∙ and-true (contains start end n) in
    λ i. filter (λ n. on n i) (below count)

-- no number is on a step of 0
pub no_step : (start end : Bound ℕ) (count : ℕ) → [] ≡ numbers_on_step start end 0 count
unfolding numbers_on_step
no_step start end count = sym (none_along (contains_step start end 0) 0 count (λ n l m. and-false (contains start end n)))

-- ---- one by one

pub stepped_none : (first step end : ℕ) → end ≤ first → stepped first step end ≡ []
unfolding stepped
stepped_none first step end h = ap (filter (λ n. (n - first) % step == 0)) (none_of (end - first) first (omega arith))

-- the numbers between a first one and the next are no whole steps from it
passed : (first step end j left : ℕ) → 0 < step → first < j → j + left ≡ first + step → filter (λ n. (n - first) % step == 0) (range_with_len j (end - j)) ≡ stepped (first + step) step end
unfolding stepped
passed first step end j zero some h e =
    let same : (n : ℕ) → j ≤ n → n < j + (end - j) → ((n - first) % step == 0) ≡ ((n - (first + step)) % step == 0) = λ n l m.
    ap (λ d. d % step == 0) {x = n - first} {y = step + (n - (first + step))} (omega arith) ∙ ap (λ d. d == 0) (add-mod_left step (n - (first + step))) in
    same_along (λ n. (n - first) % step == 0) (λ n. (n - (first + step)) % step == 0) j (end - j) same
    ∙ ap (λ k. filter (λ n. (n - (first + step)) % step == 0) (range_with_len k (end - k))) {x = j} {y = first + step} (omega arith)
passed first step end j (suc left) some h e = ⊎_elim (over (passed first step end (j + 1) left some (omega arith) (omega arith))) under (cases_lt j end)
  where
    over : filter (λ n. (n - first) % step == 0) (range_with_len (j + 1) (end - (j + 1))) ≡ stepped (first + step) step end → j < end → filter (λ n. (n - first) % step == 0) (range_with_len j (end - j)) ≡ stepped (first + step) step end
    over more l =
        let d : j - first < step = omega arith in
        let off : ((j - first) % step == 0) ≡ false = ap (λ r. r == 0) (mod-eq_of_lt d) ∙ grind (arith, nat_tests) in
        ap (filter (λ n. (n - first) % step == 0)) (some_of (end - j) j (omega arith))
        ∙ ap (λ b. cond b (j ∷ filter (λ n. (n - first) % step == 0) (range_with_len (j + 1) (end - j - 1))) (filter (λ n. (n - first) % step == 0) (range_with_len (j + 1) (end - j - 1)))) off
        ∙ ap (λ m. filter (λ n. (n - first) % step == 0) (range_with_len (j + 1) m)) {x = end - j - 1} {y = end - (j + 1)} (omega arith)
        ∙ more

    under : end ≤ j → filter (λ n. (n - first) % step == 0) (range_with_len j (end - j)) ≡ stepped (first + step) step end
    under l = ap (filter (λ n. (n - first) % step == 0)) (none_of (end - j) j (omega arith)) ∙ sym (stepped_none (first + step) step end (omega arith))

pub stepped_some : (first step end : ℕ) → 0 < step → first < end → stepped first step end ≡ first ∷ stepped (first + step) step end
unfolding stepped
stepped_some first step end some h =
    let on : ((first - first) % step == 0) ≡ true = ap (λ d. d % step == 0) {x = first - first} {y = 0} (omega arith) ∙ ap (λ r. r == 0) (zero-mod step) in
    let test : ℕ → Bool = λ n. (n - first) % step == 0 in
    ap (filter test) (some_of (end - first) first (omega arith))
    ∙ ap (λ b. cond b (first ∷ filter test (range_with_len (first + 1) (end - first - 1))) (filter test (range_with_len (first + 1) (end - first - 1)))) on
    ∙ ap (λ m. first ∷ filter test (range_with_len (first + 1) m)) {x = end - first - 1} {y = end - (first + 1)} (omega arith)
    ∙ ap (λ ns. first ∷ ns) (passed first step end (first + 1) (step - 1) some (omega arith) (omega arith))

-- the number after the first may be cut off at a top that the end is not past
pub stepped_on : (first step end next top : ℕ) → 0 < step → first < end → end ≤ top → next ≡ min (first + step) top → stepped first step end ≡ first ∷ stepped next step end
stepped_on first step end next top some h k e = stepped_some first step end some h ∙ ap (λ ns. first ∷ ns) (⊎_elim inside past (cases_lt (first + step) end))
  where
    inside : first + step < end → stepped (first + step) step end ≡ stepped next step end
    inside l = ap (λ n. stepped n step end) {x = first + step} {y = next} (omega arith)

    past : end ≤ first + step → stepped (first + step) step end ≡ stepped next step end
    past l = stepped_none (first + step) step end l ∙ sym (stepped_none next step end (omega arith))

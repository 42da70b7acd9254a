-- What is shown along a row takes as much room as the row's columns and the lines before them.
use Rattle.std.proofs.Common.{◌≡◌, ℕ, zero, suc, ◌+◌, ◌<◌, ◌≤◌, ◌==◌, ◌&&◌, Bool, true, false, nat_lt, if◌then◌else◌, inl, inr, refl, sym, ap, ◌∙◌, arith, add-one}
use Rattle.std.specs.List.{sum_by}
use Rattle.std.proofs.lemmas.Bool.{cases_eq}
use Rattle.std.proofs.lemmas.Bool.Decides.{nat_tests}
use Rattle.tabled_rooms.specs.Hosts.{Cell}
use Rattle.tabled_rooms.specs.Rooms.{one_if, width_part, room_width}
use Rattle.tabled_rooms.specs.Sizes.{below}
use Rattle.tabled_rooms.proofs.RoomLemmas.{sum_below}
use Rattle.tabled_rooms.proofs.SizeLemmas.{sum_same}

-- ---- sums over the numbers below a count

pub sum_step : (f : ℕ → ℕ) (n : ℕ) → sum_by f (below (suc n)) ≡ sum_by f (below n) + f n
sum_step f n = ap (λ m. sum_by f (below m)) (sym (add-one n)) ∙ sum_below f n

pub sum_both : (f g : ℕ → ℕ) (n : ℕ) → sum_by (λ k. f k + g k) (below n) ≡ sum_by f (below n) + sum_by g (below n)
sum_both f g zero = refl
sum_both f g (suc n) =
    let all = sum_step (λ k. f k + g k) n in
    let first = sum_step f n in
    let second = sum_step g n in
    let before = sum_both f g n in
    omega (arith, all, first, second, before)

pub sum_none : (f : ℕ → ℕ) (n : ℕ) → ((k : ℕ) → k < n → f k ≡ 0) → sum_by f (below n) ≡ 0
sum_none f zero none = refl
sum_none f (suc n) none =
    let all = sum_step f n in
    let before = sum_none f n (λ k within. none k (omega arith)) in
    let last = none n (omega arith) in
    omega (arith, all, before, last)

-- one of them counts alone
pub sum_single : (x n at : ℕ) → at < n → sum_by (λ k. if at == k then x else 0) (below n) ≡ x
sum_single x zero at within = absurd (omega (arith, within))
sum_single x (suc n) at within =
    let all = sum_step (λ k. if at == k then x else 0) n in
    elim (cases_eq at n) [
      | inl last ↦
          let there : (if at == n then x else 0) ≡ x = ap (λ b. if b then x else 0) (let yes : (at == n) ≡ true = grind (arith, nat_tests) in yes) in
          let before : sum_by (λ k. if at == k then x else 0) (below n) ≡ 0 =
          sum_none (λ k. if at == k then x else 0) n (λ k less. ap (λ b. if b then x else 0) (let no : (at == k) ≡ false = grind (arith, nat_tests, less, last) in no)) in
          omega (arith, all, there, before)
      | inr earlier ↦
          let none : (if at == n then x else 0) ≡ 0 = ap (λ b. if b then x else 0) (let no : (at == n) ≡ false = grind (arith, nat_tests) in no) in
          let before = sum_single x n at (omega (arith, within, earlier)) in
          omega (arith, all, none, before)
    ]

-- the sum of sums, taken the other way
pub sum_turned : (f : ℕ → ℕ → ℕ) (m n : ℕ) → sum_by (λ r. sum_by (f r) (below n)) (below m) ≡ sum_by (λ c. sum_by (λ r. f r c) (below m)) (below n)
sum_turned f zero n = sym (sum_none (λ c. sum_by (λ r. f r c) (below zero)) n (λ c within. refl))
sum_turned f (suc m) n =
    sum_step (λ r. sum_by (f r) (below n)) m ∙ ap (λ s. s + sum_by (f m) (below n)) (sum_turned f m n)
    ∙ sym (sum_both (λ c. sum_by (λ r. f r c) (below m)) (f m) n)
    ∙ sum_same (λ c. sum_by (λ r. f r c) (below m) + f m c) (λ c. sum_by (λ r. f r c) (below (suc m))) n (λ c within. sym (sum_step (λ r. f r c) m))

-- what is shown in its own column alone is as wide as that
pub alone_wide : (widths : ℕ → ℕ) (vertical : ℕ → Bool) (hosts : ℕ → Cell) (n c : ℕ) → c < n → ((k : ℕ) → k < n → (hosts k).1 ≡ k) → room_width widths vertical hosts n c ≡ widths c
unfolding room_width
alone_wide widths vertical hosts n c within own =
    sum_same (width_part widths vertical hosts c) (λ k. if c == k then widths c else 0) n (λ k less. by k (own k less) (c == k) refl) ∙ sum_single (widths c) n c within
  where
    by : (k : ℕ) → (hosts k).1 ≡ k → (same : Bool) → (c == k) ≡ same → width_part widths vertical hosts c k ≡ (if c == k then widths c else 0)
    by k there true e =
        let is : c ≡ k = grind (arith, nat_tests) in
        let here : ((hosts k).1 == c) ≡ true = grind (arith, nat_tests, there, is) in
        let past : nat_lt c k ≡ false = grind (arith, nat_tests, is) in
        (λ i. if here i then widths (sym is i) + one_if (past i && vertical k) else 0) ∙ (let sum : widths c + 0 ≡ widths c = omega arith in sum) ∙ (λ i. if sym e i then widths c else 0)
    by k there false e =
        let here : ((hosts k).1 == c) ≡ false = grind (arith, nat_tests, there, e) in
        (λ i. if here i then widths k + one_if (nat_lt c k && vertical k) else 0) ∙ (λ i. if sym e i then widths c else 0)

-- ---- a row, piece by piece

-- whatever is shown over some of the columns, from the first of these on; where a column is not taken over, it stands by itself
module _ (hosts : ℕ → Cell) (taken : ℕ → Bool) (widths : ℕ → ℕ) (vertical : ℕ → Bool) (n : ℕ)
    (not_after : (c : ℕ) → (hosts c).1 ≤ c) (settled : (c : ℕ) → hosts (hosts c).1 ≡ hosts c) (alike : (c : ℕ) → taken (hosts c).1 ≡ taken c) where
  -- a column with the line before it
  abbrev own : ℕ → ℕ
  own c = one_if (vertical c) + widths c

  -- the piece that begins at a column
  abbrev piece : ℕ → ℕ
  piece c = if taken c then (if (hosts c).1 == c then one_if (vertical c) + room_width widths vertical hosts n c else 0) else own c

  -- what column k adds to the piece that begins at column c
  abbrev part : ℕ → ℕ → ℕ
  part c k = if taken k then (if (hosts k).1 == c then own k else 0) else (if k == c then own k else 0)

  column_whole : (k : ℕ) → k < n → sum_by (λ c. part c k) (below n) ≡ own k
  column_whole k within = by (taken k)
    where
      by : (b : Bool) → sum_by (λ c. if b then (if (hosts k).1 == c then own k else 0) else (if k == c then own k else 0)) (below n) ≡ own k
      by true = sum_single (own k) n (hosts k).1 (let before = not_after k in omega (arith, before, within))
      by false = sum_single (own k) n k within

  -- a column that is shown from column c on
  taken_part : (c k : ℕ) → taken c ≡ true → (hosts c).1 ≡ c
      → part c k ≡ (if c == k then one_if (vertical c) else 0) + width_part widths vertical hosts c k
  taken_part c k is first = by ((hosts k).1 == c) (c == k) refl refl
    where
      by : (there own_place : Bool) → ((hosts k).1 == c) ≡ there → (c == k) ≡ own_place
          → part c k ≡ (if c == k then one_if (vertical c) else 0) + width_part widths vertical hosts c k
      by true true e o =
          let same : c ≡ k = grind (arith, nat_tests) in
          let past : nat_lt c k ≡ false = grind (arith, nat_tests) in
          let taken_k : taken k ≡ true = ap taken (sym same) ∙ is in
          (λ i. if taken_k i then (if e i then own k else 0) else (if k == c then own k else 0))
          ∙ (let sum : one_if (vertical k) + widths k ≡ one_if (vertical k) + (widths k + 0) = omega arith in sum)
          ∙ (λ i. (if sym o i then one_if (vertical (sym same i)) else 0) + (if sym e i then widths k + one_if (sym past i && vertical k) else 0))
      by true false e o =
          let there : (hosts k).1 ≡ c = grind (arith, nat_tests) in
          let other : (c ≡ k) → ◌≡◌ {A = Bool} true false = (λ same. (let yes : (c == k) ≡ true = grind (arith, nat_tests, same) in sym yes ∙ o)) in
          let before = not_after k in
          let ahead : nat_lt c k ≡ true = grind (arith, nat_tests, there, before, o) in
          let taken_k : taken k ≡ true = sym (alike k) ∙ ap taken there ∙ is in
          (λ i. if taken_k i then (if e i then own k else 0) else (if k == c then own k else 0))
          ∙ (let sum : one_if (vertical k) + widths k ≡ 0 + (widths k + one_if (vertical k)) = omega arith in sum)
          ∙ (λ i. (if sym o i then one_if (vertical c) else 0) + (if sym e i then widths k + one_if (sym ahead i && vertical k) else 0))
      by false true e o = absurd (let same : c ≡ k = grind (arith, nat_tests) in
          let yes : ((hosts k).1 == c) ≡ true = ap (λ m. (hosts m).1 == c) (sym same) ∙ (let own_first : ((hosts c).1 == c) ≡ true = grind (arith, nat_tests) in own_first) in
          let no : true ≡ false = sym yes ∙ e in cc)
      by false false e o =
          let not_it : (k == c) ≡ false = grind (arith, nat_tests) in
          (λ i. if taken k then (if e i then own k else 0) else (if not_it i then own k else 0)) ∙ none (taken k)
          ∙ (λ i. (if sym o i then one_if (vertical c) else 0) + (if sym e i then widths k + one_if (nat_lt c k && vertical k) else 0))
        where
          none : (b : Bool) → ◌≡◌ {A = ℕ} (if b then 0 else 0) 0
          none true = refl
          none false = refl

  -- one that is shown from another column on adds nothing at this one
  passed_part : (c k : ℕ) → taken c ≡ true → ((hosts c).1 == c) ≡ false → part c k ≡ 0
  passed_part c k is first = by ((hosts k).1 == c) (k == c) refl refl (taken k) refl
    where
      by : (there own_place : Bool) → ((hosts k).1 == c) ≡ there → (k == c) ≡ own_place → (t : Bool) → taken k ≡ t → part c k ≡ 0
      by true own_place e o t is_t = absurd (
          let there : (hosts k).1 ≡ c = grind (arith, nat_tests) in
          let again : (hosts c).1 ≡ c = ap (λ m. (hosts m).1) (sym there) ∙ ap (λ (cell : Cell). cell.1) (settled k) ∙ there in
          let yes : ((hosts c).1 == c) ≡ true = grind (arith, nat_tests) in
          let no : true ≡ false = sym yes ∙ first in cc)
      by false own_place e o true is_t = λ i. if is_t i then (if e i then own k else 0) else (if k == c then own k else 0)
      by false true e o false is_t = absurd (
          let same : k ≡ c = grind (arith, nat_tests) in
          let no : true ≡ false = sym is ∙ ap taken (sym same) ∙ is_t in cc)
      by false false e o false is_t = λ i. if is_t i then (if e i then own k else 0) else (if o i then own k else 0)

  -- at a column that stands by itself
  single_part : (c k : ℕ) → taken c ≡ false → part c k ≡ (if c == k then own c else 0)
  single_part c k is = by (taken k) (c == k) refl refl
    where
      by : (t own_place : Bool) → taken k ≡ t → (c == k) ≡ own_place → part c k ≡ (if c == k then own c else 0)
      by true true is_t o = absurd (
          let same : c ≡ k = grind (arith, nat_tests) in
          let no : true ≡ false = sym is_t ∙ ap taken (sym same) ∙ is in cc)
      by true false is_t o = by_place ((hosts k).1 == c) refl
        where
          by_place : (there : Bool) → ((hosts k).1 == c) ≡ there → part c k ≡ (if c == k then own c else 0)
          by_place true e = absurd (
              let there : (hosts k).1 ≡ c = grind (arith, nat_tests) in
              let no : true ≡ false = sym is_t ∙ sym (alike k) ∙ ap taken there ∙ is in cc)
          by_place false e = (λ i. if is_t i then (if e i then own k else 0) else (if k == c then own k else 0)) ∙ (λ i. if sym o i then own c else 0)
      by false true is_t o =
          let same : c ≡ k = grind (arith, nat_tests) in
          let turned : (k == c) ≡ true = grind (arith, nat_tests) in
          (λ i. if is_t i then (if (hosts k).1 == c then own k else 0) else (if turned i then own k else 0)) ∙ ap own (sym same) ∙ (λ i. if sym o i then own c else 0)
      by false false is_t o =
          let turned : (k == c) ≡ false = grind (arith, nat_tests) in
          (λ i. if is_t i then (if (hosts k).1 == c then own k else 0) else (if turned i then own k else 0)) ∙ (λ i. if sym o i then own c else 0)

  room_is : (c : ℕ) → room_width widths vertical hosts n c ≡ sum_by (width_part widths vertical hosts c) (below n)
  unfolding room_width
  room_is c = refl

  piece_parts : (c : ℕ) → c < n → piece c ≡ sum_by (part c) (below n)
  piece_parts c within = by (taken c) ((hosts c).1 == c) refl refl
    where
      by : (t first : Bool) → taken c ≡ t → ((hosts c).1 == c) ≡ first → piece c ≡ sum_by (part c) (below n)
      by true true is e =
          let there : (hosts c).1 ≡ c = grind (arith, nat_tests) in
          (λ i. if is i then (if e i then one_if (vertical c) + room_width widths vertical hosts n c else 0) else own c)
          ∙ (λ i. sym (sum_single (one_if (vertical c)) n c within) i + room_is c i)
          ∙ sym (sum_both (λ k. if c == k then one_if (vertical c) else 0) (width_part widths vertical hosts c) n)
          ∙ sum_same (λ k. (if c == k then one_if (vertical c) else 0) + width_part widths vertical hosts c k) (part c) n (λ k less. sym (taken_part c k is there))
      by true false is e =
          (λ i. if is i then (if e i then one_if (vertical c) + room_width widths vertical hosts n c else 0) else own c)
          ∙ sym (sum_none (part c) n (λ k less. passed_part c k is e))
      by false first is e =
          (λ i. if is i then (if (hosts c).1 == c then one_if (vertical c) + room_width widths vertical hosts n c else 0) else own c)
          ∙ sym (sum_single (own c) n c within)
          ∙ sum_same (λ k. if c == k then own c else 0) (part c) n (λ k less. sym (single_part c k is))

  -- the pieces fill the row
  pub pieces_fill : sum_by piece (below n) ≡ sum_by own (below n)
  pieces_fill =
      sum_same piece (λ c. sum_by (part c) (below n)) n piece_parts
      ∙ sum_turned part n n
      ∙ sum_same (λ k. sum_by (λ c. part c k) (below n)) own n column_whole

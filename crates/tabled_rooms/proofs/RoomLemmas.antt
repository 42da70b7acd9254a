-- Sums over the numbers below a count, one number more.
use Rattle.std.proofs.Common.{◌≡◌, ℕ, zero, suc, ◌+◌, ◌-◌, ◌<◌, ◌≤◌, min, Bool, ◌==◌, ◌&&◌, nat_lt, if◌then◌else◌, List, [], ◌∷◌, ◌++◌, map, refl, sym, ap, subst, ◌∙◌, arith, add-one}
use Rattle.std.proofs.lemmas.Bool.Decides.{nat_tests}
use Rattle.std.specs.List.{range_with_len, sum_by}
use Rattle.std.proofs.lemmas.List.Sums.{sum_by_push, sum_by-le-sum_by}
use Rattle.std.proofs.lemmas.List.FromFn.{map-range_with_len_more}
use Rattle.tabled_rooms.specs.Hosts.{Cell}
use Rattle.tabled_rooms.specs.Rooms.{one_if, line_part, first_line, width_part, room_width}

pub range_more : (a n : ℕ) → range_with_len a (suc n) ≡ range_with_len a n ++ (a + n) ∷ []
range_more a zero = let e : a ≡ a + 0 = omega arith in ap (λ x. x ∷ []) e
range_more a (suc n) = let e : a + 1 + n ≡ a + suc n = omega arith in ap (λ l. a ∷ l) (range_more (a + 1) n ∙ ap (λ x. range_with_len (a + 1) n ++ x ∷ []) e)

pub sum_more : (f : ℕ → ℕ) (a n : ℕ) → sum_by f (range_with_len a (n + 1)) ≡ sum_by f (range_with_len a n) + f (a + n)
sum_more f a n = ap (λ k. sum_by f (range_with_len a k)) (add-one n) ∙ ap (sum_by f) (range_more a n) ∙ sum_by_push f (range_with_len a n) (a + n)

pub sum_below : (f : ℕ → ℕ) (n : ℕ) → sum_by f (range_with_len 0 (n + 1)) ≡ sum_by f (range_with_len 0 n) + f n
sum_below f n = sum_more f 0 n ∙ (let e : 0 + n ≡ n = omega arith in ap (λ k. sum_by f (range_with_len 0 n) + f k) e)

-- the first line of the first row, and of one row more
pub first_line_none : (heights : ℕ → ℕ) (horizontal : ℕ → Bool) → first_line heights horizontal 0 ≡ 0
unfolding first_line
first_line_none heights horizontal = refl

pub first_line_more : (heights : ℕ → ℕ) (horizontal : ℕ → Bool) (r : ℕ) → first_line heights horizontal (r + 1) ≡ first_line heights horizontal r + (heights r + one_if (horizontal (r + 1)))
unfolding first_line
first_line_more heights horizontal r = sum_below (line_part heights horizontal) r

-- a row begins no sooner than those above it
pub line_order : (heights : ℕ → ℕ) (horizontal : ℕ → Bool) (r s : ℕ) → r ≤ s → first_line heights horizontal r ≤ first_line heights horizontal s
line_order heights horizontal r s above =
    let whole : r + (s - r) ≡ s = omega arith in
    subst (λ k. first_line heights horizontal r ≤ first_line heights horizontal k) whole (rows_more (s - r))
  where
    rows_more : (more : ℕ) → first_line heights horizontal r ≤ first_line heights horizontal (r + more)
    rows_more zero = let same : r ≡ r + 0 = omega arith in subst (λ k. first_line heights horizontal r ≤ first_line heights horizontal k) same (omega arith)
    rows_more (suc more) =
        let next : r + more + 1 ≡ r + suc more = omega arith in
        subst (λ k. first_line heights horizontal r ≤ first_line heights horizontal k) next (omega (arith, rows_more more, first_line_more heights horizontal (r + more)))

-- a row ends before those below it begin, and within the table
pub line_within : (heights : ℕ → ℕ) (horizontal : ℕ → Bool) (r rows : ℕ) → r < rows → first_line heights horizontal r + heights r ≤ first_line heights horizontal rows
line_within heights horizontal r rows within =
    omega (arith, first_line_more heights horizontal r, line_order heights horizontal (r + 1) rows (omega arith))

-- all lines so far, and one more
pub lines_more : (lines : List ℕ) (f : ℕ → ℕ) (n next : ℕ) → lines ≡ map f (range_with_len 0 (n + 1)) → next ≡ f (n + 1) → lines ++ next ∷ [] ≡ map f (range_with_len 0 (n + 1 + 1))
lines_more lines f n next are is = (λ i. are i ++ is i ∷ []) ∙ sym (map-range_with_len_more f 0 (n + 1) (n + 1) (omega arith))

-- the width so far, and with one column more
pub width_none : (widths : ℕ → ℕ) (vertical : ℕ → Bool) (hosts : ℕ → Cell) (first : ℕ) → room_width widths vertical hosts 0 first ≡ 0
unfolding room_width
width_none widths vertical hosts first = refl

pub width_more : (widths : ℕ → ℕ) (vertical : ℕ → Bool) (hosts : ℕ → Cell) (n first : ℕ)
    → room_width widths vertical hosts (n + 1) first ≡ room_width widths vertical hosts n first + width_part widths vertical hosts first n
unfolding room_width
width_more widths vertical hosts n first = sum_below (width_part widths vertical hosts first) n

-- what is kept of the width so far, at most a limit, and what a column adds to it, as it is added to the room that begins in the column of its host
pub width_raised : (widths : ℕ → ℕ) (vertical : ℕ → Bool) (hosts : ℕ → Cell) (n first at part old new : ℕ) → at ≡ (hosts n).1
    → old ≡ min (room_width widths vertical hosts n first) 18446744073709551615
    → part ≡ min (widths n + one_if (nat_lt at n && vertical n)) 18446744073709551615
    → new ≡ min (old + (if at == first then part else 0)) 18446744073709551615
    → new ≡ min (room_width widths vertical hosts (n + 1) first) 18446744073709551615
width_raised widths vertical hosts n first at part old new same was adds is =
    is ∙ ap (λ k. min (old + k) 18446744073709551615) (part_added at first n (widths n) part (vertical n) adds)
    ∙ ap (λ k. min (old + min (if k == first then widths n + one_if (nat_lt first n && vertical n) else 0) 18446744073709551615) 18446744073709551615) same
    ∙ limited old (room_width widths vertical hosts n first) (width_part widths vertical hosts first n) was
    ∙ ap (λ k. min k 18446744073709551615) (sym (width_more widths vertical hosts n first))
  where
    part_added : (at first n wide part : ℕ) (drawn : Bool) → part ≡ min (wide + one_if (nat_lt at n && drawn)) 18446744073709551615
        → (if at == first then part else 0) ≡ min (if at == first then wide + one_if (nat_lt first n && drawn) else 0) 18446744073709551615
    part_added at first n wide part drawn is = grind (arith, nat_tests)

    limited : (old wide more : ℕ) → old ≡ min wide 18446744073709551615 → min (old + min more 18446744073709551615) 18446744073709551615 ≡ min (wide + more) 18446744073709551615
    limited old wide more is = omega arith

-- a room is no wider than the columns that it may have, each with its line, if that is drawn
pub room_within : (widths : ℕ → ℕ) (vertical : ℕ → Bool) (hosts : ℕ → Cell) (count first : ℕ)
    → room_width widths vertical hosts count first ≤ sum_by (λ c. one_if (vertical c) + widths c) (range_with_len 0 count)
unfolding room_width
room_within widths vertical hosts count first = sum_by-le-sum_by (width_part widths vertical hosts first) (λ c. one_if (vertical c) + widths c) (range_with_len 0 count) (part_within widths vertical hosts first)
  where
    part_within : (widths : ℕ → ℕ) (vertical : ℕ → Bool) (hosts : ℕ → Cell) (first c : ℕ) → width_part widths vertical hosts first c ≤ one_if (vertical c) + widths c
    part_within widths vertical hosts first c = grind (arith, nat_tests)

-- the width of a room is that by other hosts, where these are the same
pub width_same : (widths : ℕ → ℕ) (vertical : ℕ → Bool) (hosts others : ℕ → Cell) (n first : ℕ) → ((k : ℕ) → k < n → hosts k ≡ others k)
    → room_width widths vertical hosts n first ≡ room_width widths vertical others n first
width_same widths vertical hosts others zero first same = width_none widths vertical hosts first ∙ sym (width_none widths vertical others first)
width_same widths vertical hosts others (suc n) first same =
    ap (λ m. room_width widths vertical hosts m first) (sym (add-one n)) ∙ width_more widths vertical hosts n first
    ∙ (λ i. width_same widths vertical hosts others n first (λ k within. same k (omega arith)) i
    + (ap (λ (cell : Cell). if cell.1 == first then widths n + one_if (nat_lt first n && vertical n) else 0) (same n (omega arith))) i)
    ∙ sym (width_more widths vertical others n first) ∙ ap (λ m. room_width widths vertical others m first) (add-one n)

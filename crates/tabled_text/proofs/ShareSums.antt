-- How wide columns are together, and how wide they are within their shares.
use Rattle.std.proofs.Common.{◌≡◌, ℕ, ◌+◌, ◌<◌, ◌≤◌, suc, get_or, sum, List, [], ◌∷◌, length, ap, arith}
use Rattle.std.specs.List.{sum_by, range_with_len}
use Rattle.std.proofs.lemmas.List.{map-id}
use Rattle.std.proofs.lemmas.List.Sums.{sum_by-cons}
use Rattle.std.proofs.lemmas.List.FromFn.{sum_by-map-range_with_len_more}

-- one column more
pub sum_more : (f : ℕ → ℕ) (count : ℕ) → sum_by f (range_with_len 0 (count + 1)) ≡ sum_by f (range_with_len 0 count) + f count
sum_more f count = simp map-id at (sum_by-map-range_with_len_more f (λ (n : ℕ). n) 0 count count (omega arith))

-- what is at most so much greater each, is so much greater together at most
pub sum_bound : (f g : ℕ → ℕ) (start : ℕ) (extra : List ℕ) → ((i : ℕ) → i < length extra → g (start + i) ≤ f (start + i) + get_or extra i 0)
    → sum_by g (range_with_len start (length extra)) ≤ sum_by f (range_with_len start (length extra)) + sum extra
sum_bound f g start [] each = omega arith
sum_bound f g start (n ∷ ns) each =
    let rest = sum_bound f g (start + 1) ns (λ i within.
    let there = each (suc i) (omega (arith, within)) in
    let on_left : g (start + 1 + i) ≡ g (start + suc i) = ap g (omega arith) in
    let on_right : f (start + 1 + i) ≡ f (start + suc i) = ap f (omega arith) in
    omega (arith, there, on_left, on_right)) in
    let here = each 0 (omega arith) in
    let on_left : g (start + 0) ≡ g start = ap g (omega arith) in
    let on_right : f (start + 0) ≡ f start = ap f (omega arith) in
    let of_g = sum_by-cons g start (range_with_len (start + 1) (length ns)) in
    let of_f = sum_by-cons f start (range_with_len (start + 1) (length ns)) in
    let of_extra = sum_by-cons (λ x. x) n ns in
    omega (arith, rest, here, on_left, on_right, of_g, of_f, of_extra)

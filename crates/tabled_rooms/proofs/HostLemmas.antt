-- The host of a place, by what is kept of the hosts above it and at its left.
use Rattle.std.proofs.Common.{◌≡◌, ℕ, ◌+◌, ◌<◌, ◌≤◌, ◌==◌, ◌&&◌, nat_lt, min, Bool, true, false, if◌then◌else◌, Option, Some, None, List, length, get_or, set, replicate, inl, inr, refl, sym, ap, ◌∙◌, arith, add-one}
use Rattle.std.proofs.lemmas.Bool.Decides.{nat_tests}
use Rattle.std.proofs.lemmas.List.{get_or-replicate, length-replicate, get_or-set_same, get_or-set_other}
use Rattle.std.proofs.lemmas.Bool.{cases_eq}
use Rattle.tabled_rooms.specs.declared.host.Host.{Host}
use Rattle.tabled_rooms.specs.Hosts.{Cell, Counts, from_above, from_left, shown_from, shown_left, shown_above, host}
use Rattle.tabled_rooms.specs.Holding.{held, Holds, AreAbove, AreHosts}

-- what stands above reaches down
pub kept_above : (columns rows : Counts) (shape : ℕ × ℕ) (up : Option Cell) (other : Cell) (kept : Host) (r : ℕ)
    → Holds columns rows shape up kept → r < kept.bottom → kept ≡ held columns rows shape (from_above columns rows up r other)
kept_above columns rows shape None other kept r holds within = absurd (omega (arith, holds.0))
kept_above columns rows shape (Some up) other kept r holds within =
    let reached : nat_lt r (up.0 + rows up.0 up.1) ≡ true = grind (arith, nat_tests, ap (λ (h : Host). h.bottom) holds) in
    holds ∙ ap (λ b. held columns rows shape (if b then up else other)) (sym reached)

-- it does not
pub not_above : (columns rows : Counts) (shape : ℕ × ℕ) (up : Option Cell) (other : Cell) (kept : Host) (r : ℕ)
    → Holds columns rows shape up kept → kept.bottom ≤ r → r < shape.0 → from_above columns rows up r other ≡ other
not_above columns rows shape None other kept r holds past within = refl
not_above columns rows shape (Some up) other kept r holds past within =
    let ended : nat_lt r (up.0 + rows up.0 up.1) ≡ false = grind (arith, nat_tests, ap (λ (h : Host). h.bottom) holds) in
    ap (λ b. if b then up else other) ended

-- what stands at the left, in this row, reaches to the column
pub kept_left : (columns rows : Counts) (shape : ℕ × ℕ) (beside : Option Cell) (kept : Host) (r c : ℕ)
    → Holds columns rows shape beside kept → ((kept.row == r) && nat_lt c kept.right) ≡ true → kept ≡ held columns rows shape (from_left columns rows beside r c)
kept_left columns rows shape None kept r c holds goes = absurd (let no : true ≡ false = sym goes ∙ ap (λ n. (kept.row == r) && nat_lt c n) holds.1 ∙ never (kept.row == r) in cc)
  where
    never : (b : Bool) → b && nat_lt c 0 ≡ false
    never b = grind (arith, nat_tests)
kept_left columns rows shape (Some left) kept r c holds goes =
    let reached : ((left.0 == r) && nat_lt c (left.1 + columns left.0 left.1)) ≡ true =
    within_shape (left.0 == r) (left.1 + columns left.0 left.1) (sym (λ i. ((holds i).row == r) && nat_lt c (holds i).right) ∙ goes) in
    holds ∙ ap (λ b. held columns rows shape (if b then left else (r, c))) (sym reached)
  where
    within_shape : (b : Bool) (n : ℕ) → (b && nat_lt c (min n shape.1)) ≡ true → (b && nat_lt c n) ≡ true
    within_shape b n is = grind (arith, nat_tests)

-- it does not, or stands in another row
pub not_left : (columns rows : Counts) (shape : ℕ × ℕ) (beside : Option Cell) (kept : Host) (r c : ℕ)
    → Holds columns rows shape beside kept → ((kept.row == r) && nat_lt c kept.right) ≡ false → c < shape.1 → from_left columns rows beside r c ≡ (r, c)
not_left columns rows shape None kept r c holds ends within = refl
not_left columns rows shape (Some left) kept r c holds ends within =
    let ended : ((left.0 == r) && nat_lt c (left.1 + columns left.0 left.1)) ≡ false =
    past_it (left.0 == r) (left.1 + columns left.0 left.1) (sym (λ i. ((holds i).row == r) && nat_lt c (holds i).right) ∙ ends) in
    ap (λ b. if b then left else (r, c)) ended
  where
    past_it : (b : Bool) (n : ℕ) → (b && nat_lt c (min n shape.1)) ≡ false → (b && nat_lt c n) ≡ false
    past_it b n is = grind (arith, nat_tests)

-- what is kept of a host serves the next column too
pub host_kept : (columns rows : Counts) (shape : ℕ × ℕ) (kept : Host) (r c : ℕ)
    → kept ≡ held columns rows shape (shown_from columns rows (shown_above columns rows r c) (shown_left columns rows (shown_above columns rows r) r c) r c)
    → (kept ≡ held columns rows shape (host columns rows r c)) × Holds columns rows shape (shown_left columns rows (shown_above columns rows r) r (c + 1)) kept
unfolding host shown_left
host_kept columns rows shape kept r c is = (is, rw add-one is)

-- before the first column nothing is shown
pub none_left : (columns rows : Counts) (shape : ℕ × ℕ) (r : ℕ) (above : ℕ → Option Cell) (kept : Host) → kept.bottom ≡ 0 → kept.right ≡ 0 → Holds columns rows shape (shown_left columns rows above r 0) kept
unfolding shown_left
none_left columns rows shape r above kept bottom right = (bottom, right)

-- the hosts of a row are what is shown above the next one
pub hosts_above : (columns rows : Counts) (shape : ℕ × ℕ) (r : ℕ) (kept : List Host) → AreHosts columns rows shape r kept → AreAbove columns rows shape (r + 1) kept
unfolding host shown_above
hosts_above columns rows shape r kept are c none within = rw add-one (are c none within)

-- above the first row nothing is shown
pub none_above : (columns rows : Counts) (shape : ℕ × ℕ) (count : ℕ) (kept : Host) → kept.bottom ≡ 0 → kept.right ≡ 0 → AreAbove columns rows shape 0 (replicate count kept)
unfolding shown_above
none_above columns rows shape count kept bottom right c none within =
    let is : get_or (replicate count kept) c none ≡ kept = get_or-replicate count c kept none (rw length-replicate at within) in
    (ap (λ (h : Host). h.bottom) is ∙ bottom, ap (λ (h : Host). h.right) is ∙ right)

-- after a write at a column, what holds of the columns so far holds of one more, and what stands ahead is as it was
pub placed_more : (kept : ℕ → Host) (hosts : List Host) (n : ℕ) (new : Host) → n < length hosts → new ≡ kept n
    → ((c : ℕ) (none : Host) → c < n → get_or hosts c none ≡ kept c) → (c : ℕ) (none : Host) → c < n + 1 → get_or (set hosts n new) c none ≡ kept c
placed_more kept hosts n new within is placed c none before =
    elim (cases_eq c n) [
      | inl same ↦ let there : c ≡ n = same in ap (λ k. get_or (set hosts n new) k none) there ∙ get_or-set_same hosts n new none within ∙ is ∙ ap kept (sym there)
      | inr other ↦ get_or-set_other hosts n c new none other ∙ placed c none (omega arith)
    ]

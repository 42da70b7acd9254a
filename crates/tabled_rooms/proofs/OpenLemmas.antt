-- What is shown in a row and begins above it is shown in the row above too.
use Rattle.std.proofs.Common.{◌≡◌, ℕ, zero, suc, ◌+◌, ◌≤◌, ◌==◌, ◌&&◌, Bool, true, false, nat_lt, if◌then◌else◌, Some, refl, sym, ap, ◌∙◌, arith}
use Rattle.std.proofs.lemmas.Bool.Decides.{nat_tests}
use Rattle.tabled_rooms.specs.Hosts.{Cell, Counts, from_above, from_left, host}
use Rattle.tabled_rooms.proofs.LawLemmas.{host_first, host_top, host_side, host_inside, each_host}

module _ (columns rows : Counts) where
  -- what is shown by what stands at the left begins in the row
  left_row : (left : Cell) (r c : ℕ) → (from_left columns rows (Some left) r c).0 ≡ r
  left_row left r c = by_case (left.0 == r) (nat_lt c (left.1 + columns left.0 left.1)) refl
    where
      by_case : (same reached : Bool) → (left.0 == r) ≡ same → (let cell : Cell = if same && reached then left else (r, c) in cell.0) ≡ r
      by_case true true e = let there : left.0 ≡ r = grind (arith, nat_tests) in there
      by_case true false e = refl
      by_case false true e = refl
      by_case false false e = refl

  -- all that is shown in the first row begins there
  pub top_row : (c : ℕ) → (host columns rows zero c).0 ≡ zero
  top_row zero = ap (λ (cell : Cell). cell.0) (host_first columns rows)
  top_row (suc c) = ap (λ (cell : Cell). cell.0) (host_top columns rows c) ∙ left_row (host columns rows zero c) zero (suc c)

  reached : (up other : Cell) (r : ℕ) → other.0 ≡ r → ((from_above columns rows (Some up) r other).0 == r) ≡ false → from_above columns rows (Some up) r other ≡ up
  reached up other r own = by_case (nat_lt r (up.0 + rows up.0 up.1))
    where
      by_case : (b : Bool) → ((let cell : Cell = if b then up else other in cell.0) == r) ≡ false → (if b then up else other) ≡ up
      by_case true e = refl
      by_case false e = absurd (let yes : (other.0 == r) ≡ true = grind (arith, nat_tests) in let no : true ≡ false = sym yes ∙ e in cc)

  pub above_open : (r c : ℕ) → ((host columns rows (suc r) c).0 == suc r) ≡ false → host columns rows (suc r) c ≡ host columns rows r c
  above_open r zero e =
      let is = host_side columns rows r in
      is ∙ reached (host columns rows r zero) (suc r, zero) (suc r) refl (ap (λ (cell : Cell). cell.0 == suc r) (sym is) ∙ e)
  above_open r (suc c) e =
      let is = host_inside columns rows r c in
      let left : Cell = from_left columns rows (Some (host columns rows (suc r) c)) (suc r) (suc c) in
      is ∙ reached (host columns rows r (suc c)) left (suc r) (left_row (host columns rows (suc r) c) (suc r) (suc c)) (ap (λ (cell : Cell). cell.0 == suc r) (sym is) ∙ e)

  -- what is shown in a row begins there or above
  pub begins_by : (r c : ℕ) → (host columns rows r c).0 ≤ r
  begins_by = each_host columns rows (λ r c shown. shown.0 ≤ r) (λ r c own. omega arith) (λ r c shown is before within. omega (arith, before)) (λ r c shown is before there within. before)

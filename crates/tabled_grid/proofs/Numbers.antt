-- How the numbers of lines change.
use Rattle.std.proofs.Common.{◌≡◌, ℕ, Bool, true, false, cond, Option, Some, None, unwrap_or, refl, sym, ap, ◌∙◌, ◌-◌, ◌+◌, ◌<◌, ◌≤◌, arith, Result, Ok, Err, OnOk, OnErr}
use Rattle.std.specs.Ordering.{eq_by_cmp}
use Rattle.std.specs.Cmp.{eq_by_cmp_equiv}
use Rattle.std.specs.FinMap as map
use Rattle.tabled_grid.specs.Counted.{number_at}
use Rattle.tabled_places.specs.declared.place.LineOf.{LineOf}
use Rattle.tabled_places.specs.Keys.{line_cmp, lines_total, is_same_line}
use Rattle.tabled_places.specs.Site.{same_line}
use Rattle.tabled_kept.specs.OneMore.{IsOneMore}

through : (b : Bool) (n : ℕ) (o : Option ℕ) → unwrap_or (cond b (Some n) o) 0 ≡ cond b n (unwrap_or o 0)
through true n o = refl
through false n o = refl

through_none : (b : Bool) (o : Option ℕ) → unwrap_or (cond b None o) 0 ≡ cond b 0 (unwrap_or o 0)
through_none true o = refl
through_none false o = refl

same_key : (q k : LineOf) → eq_by_cmp line_cmp q k ≡ same_line k q
same_key q k = (eq_by_cmp_equiv lines_total).symm q k ∙ is_same_line k q

pub number-insert : (m : map.FinMap line_cmp ℕ) (k : LineOf) (n : ℕ) (q : LineOf) → number_at (map.insert m k n) q ≡ cond (same_line k q) n (number_at m q)
number-insert m k n q =
    ap (λ o. unwrap_or o 0) (map.get-insert lines_total m k n q ∙ ap (λ b. cond b (Some n) (map.get m q)) (same_key q k)) ∙ through (same_line k q) n (map.get m q)

pub number-remove : (m : map.FinMap line_cmp ℕ) (k q : LineOf) → number_at (map.remove m k) q ≡ cond (same_line k q) 0 (number_at m q)
number-remove m k q =
    ap (λ o. unwrap_or o 0) (map.get-remove lines_total m k q ∙ ap (λ b. cond b None (map.get m q)) (same_key q k)) ∙ through_none (same_line k q) (map.get m q)

-- one more
pub raised : (old new : map.FinMap line_cmp ℕ) (k : LineOf) (n : ℕ) → n ≡ number_at old k → new ≡ map.insert old k (n + 1) → (q : LineOf) → number_at new q ≡ cond (same_line k q) (number_at old k + 1) (number_at old q)
raised old new k n is e q = ap (λ m. number_at m q) e ∙ number-insert old k (n + 1) q ∙ ap (λ x. cond (same_line k q) (x + 1) (number_at old q)) is

-- the same, counted where it stands
pub raised_there : (old new : map.FinMap line_cmp ℕ) (k : LineOf) → IsOneMore old new k → (q : LineOf) → number_at new q ≡ cond (same_line k q) (number_at old k + 1) (number_at old q)
raised_there old new k more = raised old new k more.0 (sym (ap (λ o. unwrap_or o 0) more.1)) more.2

-- one less, where there are more than one; the number is there, so it takes no memory
pub lowered : {E : Type 0} (r : Result (Option ℕ) E) (old new : map.FinMap line_cmp ℕ) (k : LineOf) (n : ℕ) → n ≡ number_at old k → 1 < n → OnOk r (new ≡ map.insert old k (n - 1)) → OnErr r (map.get old k ≡ None) → (q : LineOf) → number_at new q ≡ cond (same_line k q) (number_at old k - 1) (number_at old q)
lowered (Ok before) old new k n is some ok absent q = ap (λ m. number_at m q) ok ∙ number-insert old k (n - 1) q ∙ ap (λ x. cond (same_line k q) (x - 1) (number_at old q)) is
lowered (Err e) old new k n is some ok absent q = absurd (let none : number_at old k ≡ 0 = ap (λ o. unwrap_or o 0) absent in omega arith)

-- the last one
pub lowered_last : (old new : map.FinMap line_cmp ℕ) (k : LineOf) (n : ℕ) → n ≡ number_at old k → n ≤ 1 → new ≡ map.remove old k → (q : LineOf) → number_at new q ≡ cond (same_line k q) (number_at old k - 1) (number_at old q)
lowered_last old new k n is few e q =
    let none : number_at old k - 1 ≡ 0 = omega arith in
    ap (λ m. number_at m q) e ∙ number-remove old k q ∙ ap (λ x. cond (same_line k q) x (number_at old q)) (sym none)

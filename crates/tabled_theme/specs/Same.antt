-- When two maps of lines are equal.
use Rattle.std.specs.Prelude.{Bool}
use Rattle.std.specs.Cmp.{IsPartialEquivalence, IsEquivalence, on_per, and_per, on_equiv, and_equiv, partial_equiv_from_equiv, eq_by_cmp_equiv, nat_cmp_total}
use Rattle.std.specs.Cmp.Lexicographic.{lists_per, lists_equiv}
use Rattle.std.specs.FinMap.{FinMap, entries}
use Rattle.std.specs.Ordering.{nat_cmp}
use Rattle.tabled_kept.specs.Same.{same_map}

-- the same indices, and under each the same line
abbrev pub same_lines : {L : Type 0} → (L → L → Bool) → FinMap nat_cmp L → FinMap nat_cmp L → Bool
same_lines same a b = same_map same a b

pub lines_per : {L : Type 0} {E : L → L → Bool} → IsPartialEquivalence E → IsPartialEquivalence (same_lines E)
lines_per p =
    on_per entries (lists_per (and_per (on_per (λ e. e.0) (partial_equiv_from_equiv (eq_by_cmp_equiv nat_cmp_total))) (on_per (λ e. e.1) p)))

pub lines_equiv : {L : Type 0} {E : L → L → Bool} → IsEquivalence E → IsEquivalence (same_lines E)
lines_equiv e = on_equiv entries (lists_equiv (and_equiv (on_equiv (λ e. e.0) (eq_by_cmp_equiv nat_cmp_total)) (on_equiv (λ e. e.1) e)))

-- When spans are equal.
use Rattle.std.specs.Prelude.{Bool, ◌==◌}
use Rattle.std.specs.Cmp.{IsPartialEquivalence, IsEquivalence, on_equiv, and_equiv, partial_equiv_from_equiv, eq_by_cmp_equiv}
use Rattle.std.specs.Cmp.Lexicographic.{lists_equiv}
use Rattle.std.specs.FinMap.{entries}
use Rattle.std.proofs.lemmas.Cmp.{nat_eq_equiv}
use Rattle.tabled_object.specs.contracts.position.PositionOrd.TheImpl.Laws.{total-law}
use Rattle.tabled_kept.specs.Same.{same_map}
use Rattle.tabled_layout.specs.Spans.{SpanMap}

-- the same positions, and at each the same count
abbrev pub same_spans : SpanMap → SpanMap → Bool
same_spans a b = same_map ◌==◌ a b

pub spans_equiv : IsEquivalence same_spans
spans_equiv = on_equiv entries (lists_equiv (and_equiv (on_equiv (λ e. e.0) (eq_by_cmp_equiv total-law)) (on_equiv (λ e. e.1) nat_eq_equiv)))

pub spans_per : IsPartialEquivalence same_spans
spans_per = partial_equiv_from_equiv spans_equiv

use Rattle.std.proofs.Common.{subst, sym}
use Rattle.std.specs.List.Sorted.{IsStrictlySortedBy}
use Rattle.std.specs.Map.{keys_of}
use Rattle.tabled_object.specs.contracts.position.PositionOrd.TheImpl.Laws.{total-law}
use Rattle.tabled_kept.proofs.Ascending.{copied_further}
use Rattle.tabled_layout.specs.Spans.{position_cmp}
use Rattle.tabled_layout.proofs.spans.SpansKeep.keep.Goals as goal

pub loop-position-preserved : goal.loop-position-preserved
loop-position-preserved c =
    copied_further total-law c.into_iter-position-iterator.result
    (subst (λ es. IsStrictlySortedBy position_cmp (keys_of es)) (sym c.into_iter-position-iterator.ensures.into_iter_gives.0) c.into_iter-position-iterator.ensures.into_iter_gives.5)
    c.loop-position.spans.entries c.loop-position.position-iterator c.in-Some.position.now c.in-Some.count.now c.next.new.self _ c.loop-position.invariant c.in-Some.ensures.steps c.in_ok-put_copy.ensures

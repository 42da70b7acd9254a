use Rattle.std.proofs.Common.{ap, ◌∙◌, arith}
use Rattle.tabled_kept.specs.Slots.{filled}
use Rattle.tabled_kept.proofs.SlotLemmas.{filled-push}
use Rattle.tabled_kept.proofs.slots.reach.Goals as goal

pub loop-slots-preserved : goal.loop-slots-preserved
loop-slots-preserved g c = (
  ap filled c.in_ok-push.ensures.items ∙ filled-push c.loop-slots.slots.items ∙ c.loop-slots.invariant.0,
  omega (arith, c.loop-slots.invariant.1, c.in_ok-push.ensures.len),
)

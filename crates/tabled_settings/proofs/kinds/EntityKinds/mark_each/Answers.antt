use Rattle.std.proofs.Common.{ap, sym, ◌∙◌}
use Rattle.tabled_settings.specs.Kinds.{with_kind}
use Rattle.tabled_settings.proofs.Marking.{marked_more}
use Rattle.tabled_settings.proofs.kinds.EntityKinds.mark_each.Goals as goal

pub loop-entity-preserved : goal.loop-entity-preserved
loop-entity-preserved g c =
    c.mark.ensures ∙ ap (λ kinds. with_kind kinds c.loop-entity-item.result.0) c.loop-entity.invariant
    ∙ sym (marked_more c.args.self.now c.args.events.now c.loop-entity.entity-index c.loop-entity-item.result c.loop-entity-test.true c.loop-entity-item.is)

use Rattle.std.proofs.Common.{◌∙◌, ap}
use Rattle.std.specs.BTreeMap.{get}
use Rattle.tabled_settings.specs.Slots.{entity_cmp}
use Rattle.tabled_settings.proofs.Numbering.{noted_hole, noted_event}
use Rattle.tabled_settings.proofs.slots.number.Goals as goal
use Rattle.tabled_settings.proofs.slots.number.Goals.{in-Some, in-None}

pub loop-at-preserved : goal.loop-at-preserved
loop-at-preserved g c =
    elim c.match-slot.branch [
      | in-Some w ↦ λ entity.
          ap (λ m. get entity_cmp m entity) w.places-is
          ∙ noted_event c.args.slots.now c.args.places.now c.loop-at.places c.loop-at.at c.index-slots-at.result (w.in-Some.entity, w.in-Some.field-0-1) w.insert.new.self w.insert.result
          c.loop-at-test.true c.index-slots-at.is w.in-Some.is c.requires w.insert.ensures.updates w.insert.ensures.absent c.loop-at.invariant entity
      | in-None w ↦ λ entity.
          ap (λ m. get entity_cmp m entity) w.places-is
          ∙ noted_hole c.args.slots.now c.args.places.now c.loop-at.places c.loop-at.at c.index-slots-at.result c.loop-at-test.true c.index-slots-at.is w.in-None.is c.loop-at.invariant entity
    ]

use Rattle.std.proofs.Common.{sym, ◌∙◌, subst, [], ◌∷◌, ◌++◌}
use Rattle.tabled_settings.specs.Setting.{same_entity}
use Rattle.tabled_settings.specs.Slots.{standing, IsOnce}
use Rattle.tabled_settings.specs.Live.{without}
use Rattle.tabled_settings.proofs.Lasting.{copied_hole, copied_event}
use Rattle.tabled_settings.proofs.last_events.LastEventsKeep.keep.Goals as goal
use Rattle.tabled_settings.proofs.last_events.LastEventsKeep.keep.Goals.{in-Some+in_ok-keep-in-Some+in_ok-put-in-Some, in-None}

pub loop-slot-preserved : goal.loop-slot-preserved
loop-slot-preserved g c =
    elim c.match-slot.branch [
      | in-Some+in_ok-keep-in-Some+in_ok-put-in-Some w ↦
          w.copy-is ∙ w.in_ok-put-in-Some.ensures.ok
          ∙ (λ i. without w.in-Some.entity (c.loop-slot.invariant i) ++ (w.in-Some.entity, w.in_ok-keep-in-Some.ensures i) ∷ [])
          ∙ sym (copied_event c.deref-slot-items.result.now c.loop-slot.slot-index c.slot-item.result c.loop-slot-test.true c.slot-item.is (w.in-Some.entity, w.in-Some.value) w.in-Some.is
          (subst (λ slots. IsOnce same_entity (standing slots)) (sym c.deref-slot-items.ensures.value) c.self.invariant.0.0))
      | in-None w ↦ w.copy-is ∙ c.loop-slot.invariant ∙ sym (copied_hole c.deref-slot-items.result.now c.loop-slot.slot-index c.slot-item.result c.loop-slot-test.true c.slot-item.is w.in-None.is)
    ]

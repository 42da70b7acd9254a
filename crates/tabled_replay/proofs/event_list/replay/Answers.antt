use Rattle.std.proofs.Common.{sym, ap, ◌∙◌}
use Rattle.tabled_places.specs.Event.{left_by}
use Rattle.tabled_places.proofs.Replay.{replay-nil}
use Rattle.tabled_replay.proofs.EventListLemmas.{replay_covered, replay_passed}
use Rattle.tabled_replay.proofs.event_list.replay.Goals as goal
use Rattle.tabled_replay.proofs.event_list.replay.Goals.{then-covers+in-Write, then-covers+in-Erase, else-covers}

pub loop-event-init : goal.loop-event-init
loop-event-init c = sym (replay-nil c.args.site)

pub loop-event-preserved : goal.loop-event-preserved
loop-event-preserved c =
    elim c.if-covers.branch [
      | then-covers+in-Write w ↦
          replay_covered _ _ _ _ _ c.loop-event-test.true (sym c.covers.ensures ∙ w.if-covers.true)
          (w.found-is ∙ sym (ap left_by w.in-Write.is))
      | then-covers+in-Erase w ↦
          replay_covered _ _ _ _ _ c.loop-event-test.true (sym c.covers.ensures ∙ w.if-covers.true)
          (w.found-is ∙ sym (ap left_by w.in-Erase.is))
      | else-covers w ↦
          replay_passed _ _ _ _ _ c.loop-event-test.true (sym c.covers.ensures ∙ w.if-covers.false)
          (w.found-is ∙ c.loop-event.invariant)
    ]

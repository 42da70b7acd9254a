use Rattle.std.proofs.Common.{◌≡◌, drop}
use Rattle.tabled_replay.proofs.EventListLemmas.{drawn_at_some}
use Rattle.tabled_replay.proofs.event_list.drawn.Given as goal

abbrev pub invariant-loop-event : goal.invariant-loop-event
invariant-loop-event l =
    drawn_at_some l.events l.count l.line l.events
    ≡ drawn_at_some l.events l.count l.line (drop l.event-index l.events)

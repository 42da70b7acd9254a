use Rattle.std.proofs.Common.{◌≡◌, take}
use Rattle.tabled_places.specs.Event.{replay}
use Rattle.tabled_replay.proofs.event_list.replay.Given as goal

abbrev pub invariant-loop-event : goal.invariant-loop-event
invariant-loop-event l = l.found ≡ replay (take l.event-index l.events) l.site

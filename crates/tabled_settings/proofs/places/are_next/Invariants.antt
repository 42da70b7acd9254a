use Rattle.std.proofs.Common.{◌↔◌, ◌+◌, drop}
use Rattle.tabled_settings.specs.Slots.{AreNext}
use Rattle.tabled_settings.proofs.places.are_next.Given as goal

-- those that were passed follow one another, so that the others decide
abbrev pub invariant-loop-at : goal.invariant-loop-at
invariant-loop-at g l = AreNext (l.first + l.at) (drop l.at l.events) ↔ AreNext l.first l.events

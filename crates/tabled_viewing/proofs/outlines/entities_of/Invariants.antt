-- The parts so far.
use Rattle.std.proofs.Common.{◌≡◌, map, take}
use Rattle.tabled_viewing.specs.Outlines.{entity_of}
use Rattle.tabled_viewing.proofs.outlines.entities_of.Given as goal

abbrev pub invariant-loop-part : goal.invariant-loop-part
invariant-loop-part l = l.cells.items ≡ map entity_of (take l.part-index l.parts)

use Rattle.std.proofs.Common.{length}
use Rattle.tabled_places.specs.State.{State}
use Rattle.tabled_places.specs.Writes.{PutsBackAll}
use Rattle.tabled_grid.proofs.layers.writes.VecWriteGroup.put_back.Given as goal

abbrev pub invariant-loop-entry : goal.invariant-loop-entry
invariant-loop-entry g l = (before : State g.row.T.Denot) → PutsBackAll l.fn.self.items before l.fn.store → PutsBackAll l.self.items before l.store

abbrev pub decreases-loop-entry : goal.decreases-loop-entry
decreases-loop-entry g l = length l.self.items

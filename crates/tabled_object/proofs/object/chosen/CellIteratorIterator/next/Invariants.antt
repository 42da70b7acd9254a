use Rattle.std.proofs.Common.{◌≡◌, length}
use Rattle.tabled_object.specs.Chosen.{passes}
use Rattle.tabled_object.specs.Listing.{chosen}
use Rattle.tabled_object.proofs.object.chosen.CellIteratorIterator.next.Given as goal

abbrev pub invariant-loop-cell : goal.invariant-loop-cell
invariant-loop-cell l =
    let start = l.initial.self-inside in
    let now = l.self-inside in
    chosen (passes start.test) start.cells ≡ chosen (passes now.test) now.cells

abbrev pub decreases-loop-cell : goal.decreases-loop-cell
decreases-loop-cell l = length l.self-inside.cells

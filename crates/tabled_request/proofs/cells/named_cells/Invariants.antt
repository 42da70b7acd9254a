-- What the parts so far name.
use Rattle.std.proofs.Common.{◌≡◌, map}
use Rattle.tabled_request.specs.Cells.{cells_of}
use Rattle.tabled_request.proofs.cells.named_cells.Given as goal

abbrev pub invariant-loop-part : goal.invariant-loop-part
invariant-loop-part l = l.named.items ≡ map cells_of (map (λ part. part.now) l.yielded)

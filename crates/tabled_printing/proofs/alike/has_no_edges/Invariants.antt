-- Nothing is kept beside the rows so far.
use Rattle.tabled_printing.specs.Alike.{HasNoEdges}
use Rattle.tabled_printing.proofs.alike.has_no_edges.Given as goal

abbrev pub invariant-loop-row : goal.invariant-loop-row
invariant-loop-row g l = HasNoEdges l.row l.col l.store

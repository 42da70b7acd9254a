-- The places of the run so far.
use Rattle.std.proofs.Common.{map}
use Rattle.tabled_object.specs.Entities.{below}
use Rattle.tabled_printing.specs.Marks.{mark_of}
use Rattle.tabled_printing.specs.Sinks.{marks_gained}
use Rattle.tabled_printing.proofs.sink.VecMarkSink.put.Given as goal

abbrev pub invariant-loop : goal.invariant-loop
invariant-loop l = marks_gained (map (λ _. mark_of l.run.mark) (below l.counter)) l.initial.self l.self

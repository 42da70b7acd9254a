-- One place more of the run.
use Rattle.std.proofs.Common.{[], ◌∷◌, ◌∙◌, ap, map}
use Rattle.std.proofs.lemmas.List.{map-append}
use Rattle.tabled_printing.specs.Marks.{mark_of}
use Rattle.tabled_printing.specs.Sinks.{marks_both}
use Rattle.tabled_printing.proofs.MarkLemmas.{alike_more}
use Rattle.tabled_printing.proofs.sink.VecMarkSink.put.Goals as goal

pub loop-preserved : goal.loop-preserved
loop-preserved c =
    rw (alike_more (mark_of c.args.run.mark) c.loop.counter)
    (marks_both _ (mark_of c.args.run.mark ∷ []) c.args.self.now c.loop.self c.push.new.self c.loop.invariant
    (ap (map mark_of) c.in_ok-push.ensures.items ∙ map-append mark_of c.loop.self.items (c.args.run.mark ∷ [])))

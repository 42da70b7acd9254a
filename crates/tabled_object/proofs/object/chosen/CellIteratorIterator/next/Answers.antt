use Rattle.std.proofs.Common.{sym, ◌∙◌, ap, length, arith}
use Rattle.tabled_object.specs.Chosen.{passes}
use Rattle.tabled_object.proofs.Choosing.{first_chosen}
use Rattle.tabled_object.proofs.object.chosen.CellIteratorIterator.next.Goals as goal

pub returns-then-passes-clause-steps : goal.returns-then-passes-clause-steps
returns-then-passes-clause-steps c =
    let it = c.loop-cell.self-inside in
    sym c.self.view_is ∙ c.loop-cell.invariant
    ∙ first_chosen (passes it.test) c.in-Some.cell it.cells c.next.new.self c.in-Some.ensures.steps (sym c.passes.ensures ∙ c.if-passes.true)

pub returns-then-passes-clause-goes : goal.returns-then-passes-clause-goes
returns-then-passes-clause-goes c =
    let less = ap length (returns-then-passes-clause-steps c) in
    record { on = λ _. (tt, tt, omega (arith, less)); keeps = tt; rests = λ _. tt }

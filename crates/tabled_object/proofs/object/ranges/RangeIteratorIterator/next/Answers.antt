use Rattle.std.proofs.Common.{◌≤◌, ◌∷◌, map, length, ap, sym, ◌∙◌, arith}
use Rattle.tabled_object.specs.Ranges.{line_of, stepped}
use Rattle.tabled_object.proofs.Stepping.{stepped_none, stepped_on}
use Rattle.tabled_object.proofs.object.ranges.RangeIteratorIterator.next.Goals as goal

pub returns-then-self-clause-steps : goal.returns-then-self-clause-steps
returns-then-self-clause-steps c =
    let it = c.self.inside in
    let none = sym c.self.view_is ∙ ap (map (line_of it.are_rows)) (stepped_none it.next it.step it.end c.if-self.true) in
    (none, none)

pub returns-clause-steps : goal.returns-clause-steps
returns-clause-steps c =
    let it = c.self.inside in
    let next = c.saturating_add-self-inside.result in
    let fits : it.end ≤ 18446744073709551615 = omega arith in
    sym c.self.view_is ∙ ap (map (line_of it.are_rows)) (stepped_on it.next it.step it.end next 18446744073709551615 c.self.invariant c.if-self.false fits c.saturating_add-self-inside.ensures)
    ∙ ap (λ entity. entity ∷ map (line_of it.are_rows) (stepped next it.step it.end)) (sym c.line.ensures)

pub returns-clause-goes : goal.returns-clause-goes
returns-clause-goes c =
    let less = ap length (returns-clause-steps c) in
    record { on = λ _. (tt, tt, omega (arith, less)); keeps = tt; rests = λ _. tt }

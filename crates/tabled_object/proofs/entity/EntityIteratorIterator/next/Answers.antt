use Rattle.std.proofs.Common.{◌≡◌, sym, ◌∙◌, ap, length, arith}
use Rattle.tabled_object.proofs.Rectangles.{nothing_left, across_lines, same_position}
use Rattle.tabled_object.proofs.entity.EntityIteratorIterator.next.Goals as goal

pub returns-then-self-eq0-clause-steps : goal.returns-then-self-eq0-clause-steps
returns-then-self-eq0-clause-steps c =
    let it = c.self.inside in
    let rows : it.rows_left ≡ 0 = grind (arith, c.self.invariant) in
    let none = sym c.self.view_is ∙ nothing_left it.row it.col it.cols_left it.rows_left it.first_col it.cols c.if-self-eq0.true rows in
    (none, none)

pub returns-then-self-gt0-2-clause-steps : goal.returns-then-self-gt0-2-clause-steps
returns-then-self-gt0-2-clause-steps c =
    let it = c.self.inside in
    let here = same_position c.new-position.result it.row it.col c.new-position.ensures.row c.new-position.ensures.col in
    sym c.self.view_is ∙ across_lines it.row it.col it.cols_left it.rows_left it.first_col it.cols c.new-position.result here (omega arith) (omega arith) c.if-self-gt0-2.true

pub returns-then-self-gt0-2-clause-goes : goal.returns-then-self-gt0-2-clause-goes
returns-then-self-gt0-2-clause-goes c =
    let it = c.self.inside in
    let here = same_position c.new-position.result it.row it.col c.new-position.ensures.row c.new-position.ensures.col in
    let less = ap length (sym c.self.view_is ∙ across_lines it.row it.col it.cols_left it.rows_left it.first_col it.cols c.new-position.result here (omega arith) (omega arith) c.if-self-gt0-2.true) in
    record { on = λ _. (tt, tt, omega (arith, less)); keeps = tt; rests = λ _. tt }

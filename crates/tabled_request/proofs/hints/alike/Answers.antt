-- The second text ends where the first goes on.
use Rattle.std.proofs.Common.{drop, arith}
use Rattle.tabled_request.proofs.Endings.{none_alike}
use Rattle.tabled_request.proofs.hints.alike.Goals as goal

pub returns-else-at-b : goal.returns-else-at-b
returns-else-at-b c =
    let none = none_alike (drop c.loop-at.at c.args.a.now) c.args.b.now c.loop-at.at c.if-at-b.false in
    omega (arith, none, c.loop-at.invariant.alike)

-- As many characters as the piece has, and finally those that are left.
use Rattle.std.proofs.Common.{◌-◌, arith}
use Rattle.tabled_width.proofs.TimesLemmas.{both_written}
use Rattle.tabled_width.proofs.repeat.push_pieces.Goals as goal

pub loop-left-preserved : goal.loop-left-preserved
loop-left-preserved c =
    let all = c.loop-left.invariant in
    (both_written _ _ _ (c.args.count - c.loop-left.left) 64 (c.args.count - (c.loop-left.left - 64)) c.args.character (omega (arith, all.1, c.loop-left-test.true)) all.0 c.in_ok-push_part.ensures.ok, omega (arith, all.1))

pub returns-clause-ok : goal.returns-clause-ok
returns-clause-ok c =
    let all = c.loop-left.invariant in
    both_written _ _ _ (c.args.count - c.loop-left.left) c.loop-left.left c.args.count c.args.character (omega (arith, all.1)) all.0 c.in_ok-push_part-2.ensures.ok

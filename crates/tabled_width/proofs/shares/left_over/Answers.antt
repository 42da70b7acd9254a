-- What is left after one column more.
use Rattle.tabled_width.proofs.Sharing.{room_over, room_more}
use Rattle.tabled_width.proofs.shares.left_over.Goals as goal

pub returns-then-left-taken : goal.returns-then-left-taken
returns-then-left-taken c =
    room_over c.args.cap c.args.room c.loop-wanted.left c.min-taken.result c.loop-wanted.wanted-index c.args.asked.now
    c.loop-wanted.invariant c.loop-wanted-test.true c.min-taken.ensures c.if-left-taken.true

pub loop-wanted-preserved : goal.loop-wanted-preserved
loop-wanted-preserved c =
    room_more c.args.cap c.args.room c.loop-wanted.left c.min-taken.result c.loop-wanted.wanted-index c.args.asked.now
    c.loop-wanted.invariant c.loop-wanted-test.true c.min-taken.ensures c.if-left-taken.false

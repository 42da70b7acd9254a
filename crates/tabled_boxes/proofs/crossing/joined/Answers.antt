use Rattle.tabled_boxes.proofs.Joining.{joins, few, untouched, undrawn, beside_another, stays, written, remains, twice}
use Rattle.tabled_boxes.proofs.crossing.joined.Goals as goal

pub returns-clause-joins : goal.returns-clause-joins
returns-clause-joins c = rw c.joined_where.ensures (joins c.args.crossing c.args.edges)

pub returns-clause-few : goal.returns-clause-few
returns-clause-few c = rw c.joined_where.ensures (few c.args.crossing c.args.edges)

pub returns-clause-untouched : goal.returns-clause-untouched
returns-clause-untouched c = rw c.joined_where.ensures (untouched c.args.crossing c.args.edges)

pub returns-clause-undrawn : goal.returns-clause-undrawn
returns-clause-undrawn c = rw c.joined_where.ensures (undrawn c.args.crossing c.args.edges)

pub returns-clause-beside_another : goal.returns-clause-beside_another
returns-clause-beside_another c = rw c.joined_where.ensures (beside_another c.args.crossing c.args.edges)

pub returns-clause-stays : goal.returns-clause-stays
returns-clause-stays c = rw c.joined_where.ensures (stays c.args.crossing c.args.edges)

pub returns-clause-written : goal.returns-clause-written
returns-clause-written c = rw c.joined_where.ensures (written c.args.crossing c.args.edges)

pub returns-clause-remains : goal.returns-clause-remains
returns-clause-remains c = rw c.joined_where.ensures (remains c.args.crossing c.args.edges)

pub returns-clause-twice : goal.returns-clause-twice
returns-clause-twice c = rw c.joined_where.ensures (twice c.args.crossing c.args.edges)

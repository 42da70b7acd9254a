-- There is a share for each; they are no more than what is asked for, and no less than the least; and they fit where there is room for that.
use Rattle.std.proofs.Common.{◌-◌, ◌∙◌, length, sum, get_or, ap, arith}
use Rattle.tabled_width.specs.Shares.{used}
use Rattle.tabled_width.proofs.Sharing.{shares_fit, length_shared, least_shared, shared_asked}
use Rattle.tabled_width.proofs.shares.shares_of.Goals as goal

pub returns-clause-fits : goal.returns-clause-fits
returns-clause-fits c = λ few.
    let made = c.in_ok-shares.ensures in
    let most = shares_fit c.args.least c.args.room made.0 c.args.asked.now made.1 few in
    omega (arith, ap sum made.2, most)

pub returns-clause-count : goal.returns-clause-count
returns-clause-count c =
    let made = c.in_ok-shares.ensures in
    ap length made.2 ∙ length_shared made.0 _ c.args.asked.now

pub returns-clause-asked : goal.returns-clause-asked
returns-clause-asked c =
    let made = c.in_ok-shares.ensures in
    let most = shared_asked made.0 (c.args.room - used made.0 c.args.asked.now) c.args.asked.now in
    omega (arith, ap sum made.2, most)

pub returns-clause-at_least : goal.returns-clause-at_least
returns-clause-at_least c = λ col.
    let made = c.in_ok-shares.ensures in
    let least = least_shared c.args.least made.0 (c.args.room - used made.0 c.args.asked.now) c.args.asked.now col made.1.some in
    omega (arith, least, ap (λ shares. get_or shares col 0) made.2)

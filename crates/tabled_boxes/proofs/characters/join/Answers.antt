use Rattle.std.proofs.Common.{◌≡◌}
use Rattle.tabled_boxes.specs.Arms.{join}
use Rattle.tabled_boxes.proofs.Tables.{joined-there, drawn-there, arms-come-back}
use Rattle.tabled_boxes.proofs.characters.join.Goals as goal

pub returns-clause-first : goal.returns-clause-first
returns-clause-first c = cc (joined-there c.args.arms)

pub returns-clause-same_arms : goal.returns-clause-same_arms
returns-clause-same_arms c =
    let same : c.joined_at.result ≡ join c.args.arms = returns-clause-first c in
    rw same (arms-come-back c.args.arms)

pub returns-clause-drawn : goal.returns-clause-drawn
returns-clause-drawn c =
    let same : c.joined_at.result ≡ join c.args.arms = returns-clause-first c in
    rw same (drawn-there c.args.arms)

use Rattle.tabled_correction.proofs.Adding.{three_pushed}
use Rattle.tabled_correction.proofs.border_correction.in_a_row.Goals as goal

pub returns : goal.returns
returns c =
    three_pushed c.new-writes.result.items c.push_all.new.writes.items c.push_all-2.new.writes.items c.push_all-3.new.writes.items c.args.first.now c.args.second.now c.args.third.now
    c.new-writes.ensures.items c.in_ok-push_all.ensures c.in_ok-push_all-2.ensures c.in_ok-push_all-3.ensures

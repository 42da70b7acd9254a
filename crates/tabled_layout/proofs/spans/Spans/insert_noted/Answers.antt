use Rattle.tabled_layout.proofs.TakenBackLemmas.{noted}
use Rattle.tabled_layout.proofs.spans.Spans.insert_noted.Goals as goal

pub returns-clause-back : goal.returns-clause-back
returns-clause-back c =
    noted c.args.self.now c.insert.new.self c.args.cell c.args.count c.get.result c.args.before.now.items c.push.new.self.items c.insert.result
    c.requires c.get.ensures c.in_ok-push.ensures.items c.insert.ensures.ok c.insert.ensures.err c.insert.ensures.absent

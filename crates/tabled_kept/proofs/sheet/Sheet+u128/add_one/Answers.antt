use Rattle.std.proofs.Common.{sym, ◌∙◌}
use Rattle.tabled_kept.proofs.SheetLemmas.{not_far}
use Rattle.tabled_kept.proofs.OneMoreLemmas.{parted_near, more_near}
use Rattle.tabled_kept.proofs.sheet.Sheet+u128.add_one.Goals as goal

pub invariant_of-self : goal.invariant_of-self
invariant_of-self c =
    let kept = c.self.inside in
    let near = sym c.number.ensures ∙ not_far c.number.result (sym c.is_some.ensures ∙ c.if-is_some.false) in
    parted_near kept.near c.add_one-more.new.self kept.far.entries c.self.invariant c.args.slot near c.add_one-more.result c.add_one-more.ensures.more c.add_one-more.ensures.same

pub returns-clause-more : goal.returns-clause-more
returns-clause-more c holds =
    let kept = c.self.inside in
    let near = sym c.number.ensures ∙ not_far c.number.result (sym c.is_some.ensures ∙ c.if-is_some.false) in
    more_near kept.near c.add_one-more.new.self kept.far.entries c.self.invariant c.args.slot near c.args.self.now c.self.view_is (c.add_one-more.ensures.more holds)

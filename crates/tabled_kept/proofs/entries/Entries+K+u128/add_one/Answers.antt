use Rattle.std.proofs.Common.{sym, ◌∙◌}
use Rattle.tabled_kept.proofs.OneMoreLemmas.{parted_dense, more_dense}
use Rattle.tabled_kept.proofs.entries.Entries+K+u128.add_one.Goals as goal

pub invariant_of-self : goal.invariant_of-self
invariant_of-self g c =
    let kept = c.self.inside in
    (parted_dense g.met.K.Ord.total g.met.K.Key.exact g.met.K.Key.back kept.dense c.add_one-more.new.self kept.others.entries c.self.invariant.0 c.args.key c.in-Some.slot (sym c.slot.ensures ∙ c.in-Some.is) c.add_one-more.result c.add_one-more.ensures.more c.add_one-more.ensures.same, c.self.invariant.1)

pub returns-in-Some-clause-more : goal.returns-in-Some-clause-more
returns-in-Some-clause-more g c holds =
    let kept = c.self.inside in
    more_dense g.met.K.Ord.total g.met.K.Key.exact g.met.K.Key.back kept.dense c.add_one-more.new.self kept.others.entries c.self.invariant.0 c.args.key c.in-Some.slot (sym c.slot.ensures ∙ c.in-Some.is) c.args.self.now c.self.view_is (c.add_one-more.ensures.more holds)

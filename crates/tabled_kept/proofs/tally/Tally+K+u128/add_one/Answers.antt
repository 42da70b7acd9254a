use Rattle.std.proofs.Common.{ap}
use Rattle.tabled_kept.specs.Table.{table}
use Rattle.tabled_kept.proofs.OneMoreLemmas.{as_many_kept}
use Rattle.tabled_kept.proofs.tally.Tally+K+u128.add_one.Goals as goal

pub invariant_of-self : goal.invariant_of-self
invariant_of-self g c =
    as_many_kept g.met.K.Ord.total (table g.K.Ord.cmp c.self.inside.entries) (table g.K.Ord.cmp c.add_one-more.new.self) c.args.key c.self.inside.number c.add_one-more.result c.self.invariant c.add_one-more.ensures.more (λ none. ap (table g.K.Ord.cmp) (c.add_one-more.ensures.same none))

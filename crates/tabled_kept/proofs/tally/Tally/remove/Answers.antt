use Rattle.tabled_kept.specs.Table.{table}
use Rattle.tabled_kept.proofs.Tallies.{one_less, none_less, some_there}
use Rattle.tabled_kept.proofs.tally.Tally.remove.Goals as goal

pub overflow_sub-self : goal.overflow_sub-self
overflow_sub-self g c =
    some_there g.met.K.Ord.total (table g.K.Ord.cmp c.self.inside.entries) c.args.key c.remove-before.result c.self.inside.number c.is_some.result c.self.invariant c.remove-before.ensures.before c.is_some.ensures c.if-is_some.true

pub invariant_of-self : goal.invariant_of-self
invariant_of-self g c =
    one_less g.met.K.Ord.total (table g.K.Ord.cmp c.self.inside.entries) (table g.K.Ord.cmp c.remove-before.new.self) c.args.key c.remove-before.result c.self.inside.number c.is_some.result c.self.invariant c.remove-before.ensures.before c.remove-before.ensures.removed c.is_some.ensures c.if-is_some.true

pub invariant_of-self-else-is_some : goal.invariant_of-self-else-is_some
invariant_of-self-else-is_some g c =
    none_less g.met.K.Ord.total (table g.K.Ord.cmp c.self.inside.entries) (table g.K.Ord.cmp c.remove-before.new.self) c.args.key c.remove-before.result c.self.inside.number c.is_some.result c.self.invariant c.remove-before.ensures.before c.remove-before.ensures.removed c.is_some.ensures c.if-is_some.false

use Rattle.std.proofs.Common.{arith}
use Rattle.tabled_kept.specs.Table.{table}
use Rattle.tabled_kept.proofs.Tallies.{one_more, as_many}
use Rattle.tabled_kept.proofs.tally.Tally.insert.Goals as goal

pub overflow_add-self : goal.overflow_add-self
overflow_add-self g c =
    let more = one_more g.met.K.Ord.total (table g.K.Ord.cmp c.self.inside.entries) (table g.K.Ord.cmp c.insert.new.self) c.args.key c.args.value c.in-Ok.before c.self.inside.number c.is_none.result c.self.invariant c.in-Ok.ensures.before c.in-Ok.ensures.ok c.is_none.ensures c.if-is_none.true in
    omega (arith, more, c.insert.ensures.few)

pub invariant_of-self-then-is_none : goal.invariant_of-self-then-is_none
invariant_of-self-then-is_none g c =
    one_more g.met.K.Ord.total (table g.K.Ord.cmp c.self.inside.entries) (table g.K.Ord.cmp c.insert.new.self) c.args.key c.args.value c.in-Ok.before c.self.inside.number c.is_none.result c.self.invariant c.in-Ok.ensures.before c.in-Ok.ensures.ok c.is_none.ensures c.if-is_none.true

pub invariant_of-self-else-is_none : goal.invariant_of-self-else-is_none
invariant_of-self-else-is_none g c =
    as_many g.met.K.Ord.total (table g.K.Ord.cmp c.self.inside.entries) (table g.K.Ord.cmp c.insert.new.self) c.args.key c.args.value c.in-Ok.before c.self.inside.number c.is_none.result c.self.invariant c.in-Ok.ensures.before c.in-Ok.ensures.ok c.is_none.ensures c.if-is_none.false

use Rattle.std.proofs.Common.{subst}
use Rattle.std.proofs.lemmas.List.{nil_from_length}
use Rattle.tabled_places.specs.Writes.{PutsBackAll}
use Rattle.tabled_places.proofs.WritesLemmas.{last_back, none_back}
use Rattle.tabled_grid.proofs.layers.writes.VecWriteGroup.put_back.Goals as goal

pub loop-entry-preserved-in-Some : goal.loop-entry-preserved-in-Some
loop-entry-preserved-in-Some g c = λ before puts. last_back c.pop.new.self.items c.in-Some.entry before c.loop-entry.store _ c.put_back.ensures
    (subst (λ ws. PutsBackAll ws before c.loop-entry.store) c.in-Some.ensures.items (c.loop-entry.invariant before puts))

pub loop-entry-preserved : goal.loop-entry-preserved
loop-entry-preserved g c = λ before puts. last_back c.pop.new.self.items c.in-Some.entry before c.loop-entry.store _ c.put_back.ensures
    (subst (λ ws. PutsBackAll ws before c.loop-entry.store) c.in-Some.ensures.items (c.loop-entry.invariant before puts))

pub returns : goal.returns
returns g c = λ before puts. none_back c.loop-entry.self.items before c.loop-entry.store (nil_from_length c.loop-entry.self.items (let e = c.loop-entry.self.ok in let f = c.in_default.ensures.cases.0 in cc)) (c.loop-entry.invariant before puts)

use Rattle.std.proofs.Common.{sym, ◌∙◌}
use Rattle.tabled_places.specs.declared.event.Written.TheVariants.{Sign as sign}
use Rattle.tabled_places.specs.State.{state_at}
use Rattle.tabled_places.specs.Writes.{site_of}
use Rattle.tabled_places.proofs.PuttingBack.{written_over}
use Rattle.tabled_grid.proofs.Seen.{if_err}
use Rattle.tabled_places.proofs.WritesLemmas.{one_made, one_anew, none_made, no_value_made, target_back}
use Rattle.tabled_places.proofs.WritingAnew.{stays_same, stays_written}
use Rattle.tabled_grid.proofs.layers.writes.WriteGroup.exchange.Goals as goal

pub returns-in_default-clause-ok : goal.returns-in_default-clause-ok
returns-in_default-clause-ok g c = none_made c.args.self.now.target c.args.self.now.value c.args.store.now c.in_default.is

pub returns-in_default-clause-stays : goal.returns-in_default-clause-stays
returns-in_default-clause-stays g c = stays_same (state_at c.args.store.now)

pub returns-in_default-take-clause-ok : goal.returns-in_default-take-clause-ok
returns-in_default-take-clause-ok g c =
    no_value_made c.args.self.now.target c.args.self.now.value c.in-Some.target c.args.store.now c.in-Some.is (sym c.take.ensures.value ∙ c.in_default-take.is)

pub returns-in_default-take-clause-stays : goal.returns-in_default-take-clause-stays
returns-in_default-take-clause-stays g c = stays_same (state_at c.args.store.now)

pub returns-in_err-self-clause-absent : goal.returns-in_err-self-clause-absent
returns-in_err-self-clause-absent g c =
    if_err c.from_residual.result (one_anew c.args.self.now.target c.args.self.now.value c.in-Some.target c.in-Some-take.value c.args.store.now c.in-Some.is (sym c.take.ensures.value ∙ c.in-Some-take.is) c.in_err-self.ensures.absent)

pub returns-clause-ok : goal.returns-clause-ok
returns-clause-ok g c =
    one_made c.args.self.now.target c.args.self.now.value c.in-Some.target c.in-Some-take.value c.args.store.now c.replace.new.self c.in-Some.is (sym c.take.ensures.value ∙ c.in-Some-take.is) c.in_ok-self.ensures.ok

pub returns-clause-back : goal.returns-clause-back
returns-clause-back g c =
    target_back c.args.self.now.target c.in_ok-self.field-0 c.in-Some.target c.args.store.now c.replace.new.self c.in-Some.is
    (written_over c.in-Some.target c.in-Some-take.value c.in_ok-self.field-0 c.args.store.now c.replace.new.self c.in_ok-self.ensures.before c.in_ok-self.ensures.ok)

pub returns-clause-stays : goal.returns-clause-stays
returns-clause-stays g c = stays_written (site_of c.in-Some.target) (sign c.in-Some-take.value) _ _ c.in_ok-self.ensures.ok

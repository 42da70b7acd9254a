use Rattle.std.proofs.Common.{sym, ap, ◌∙◌}
use Rattle.tabled_kept.proofs.KeptLemmas.{read_dense, read_others}
use Rattle.tabled_kept.proofs.Tables.{get-table, table_at}
use Rattle.tabled_kept.specs.Slots.{slots_total}
use Rattle.tabled_kept.proofs.TableLemmas.{exact_slots}
use Rattle.tabled_kept.proofs.entries.Entries.read.Goals as goal

pub returns-in-Some-clause-value : goal.returns-in-Some-clause-value
returns-in-Some-clause-value g c =
    let kept = c.self.inside in
    c.get.ensures ∙ sym (read_dense slots_total exact_slots g.met.K.Ord.total g.met.K.Key.exact g.met.K.Key.back kept.dense kept.others.entries c.self.invariant.0 c.args.key c.in-Some.slot (sym c.slot.ensures ∙ c.in-Some.is))
    ∙ ap (table_at g.K.Ord.cmp c.args.key) c.self.view_is

pub returns-in-None-clause-value : goal.returns-in-None-clause-value
returns-in-None-clause-value g c =
    let kept = c.self.inside in
    c.get-in-None.ensures.value ∙ sym (get-table g.met.K.Ord.total g.met.K.Key.exact kept.others.entries c.args.key)
    ∙ sym (read_others slots_total exact_slots g.met.K.Ord.total g.met.K.Key.exact g.met.K.Key.back kept.dense kept.others.entries c.self.invariant.0 c.args.key (sym c.slot.ensures ∙ c.in-None.is))
    ∙ ap (table_at g.K.Ord.cmp c.args.key) c.self.view_is

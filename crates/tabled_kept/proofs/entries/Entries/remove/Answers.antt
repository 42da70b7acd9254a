use Rattle.std.proofs.Common.{sym, ap, ◌∙◌, arith}
use Rattle.tabled_kept.proofs.KeptLemmas.{read_dense, read_others, taken_from_slot, taken_beside}
use Rattle.tabled_kept.proofs.FewSlots.{few_kept}
use Rattle.tabled_kept.proofs.Tables.{get-table, table-take, table_at, taken}
use Rattle.tabled_kept.specs.Slots.{slots_total}
use Rattle.tabled_kept.proofs.TableLemmas.{exact_slots}
use Rattle.tabled_kept.proofs.entries.Entries.remove.Goals as goal

pub invariant_of-self : goal.invariant_of-self
invariant_of-self g c =
    let kept = c.self.inside in
    let of_key = sym c.slot.ensures ∙ c.in-Some.is in
    ((taken_from_slot slots_total exact_slots g.met.K.Ord.total g.met.K.Key.exact g.met.K.Key.back kept.dense c.take-before.new.self kept.others.entries c.self.invariant.0 c.args.key c.in-Some.slot of_key c.take-before.ensures.removed).0, c.self.invariant.1)

pub returns-in-Some-clause-before : goal.returns-in-Some-clause-before
returns-in-Some-clause-before g c =
    let kept = c.self.inside in
    c.take-before.ensures.before ∙ sym (read_dense slots_total exact_slots g.met.K.Ord.total g.met.K.Key.exact g.met.K.Key.back kept.dense kept.others.entries c.self.invariant.0 c.args.key c.in-Some.slot (sym c.slot.ensures ∙ c.in-Some.is))
    ∙ ap (table_at g.K.Ord.cmp c.args.key) c.self.view_is

pub returns-in-Some-clause-removed : goal.returns-in-Some-clause-removed
returns-in-Some-clause-removed g c =
    let kept = c.self.inside in
    let of_key = sym c.slot.ensures ∙ c.in-Some.is in
    (taken_from_slot slots_total exact_slots g.met.K.Ord.total g.met.K.Key.exact g.met.K.Key.back kept.dense c.take-before.new.self kept.others.entries c.self.invariant.0 c.args.key c.in-Some.slot of_key c.take-before.ensures.removed).1
    ∙ ap (taken g.K.Ord.cmp c.args.key) c.self.view_is

pub returns-in-Some-clause-few : goal.returns-in-Some-clause-few
returns-in-Some-clause-few g c =
    let kept = c.self.inside in
    let of_key = sym c.slot.ensures ∙ c.in-Some.is in
    let parted = (taken_from_slot slots_total exact_slots g.met.K.Ord.total g.met.K.Key.exact g.met.K.Key.back kept.dense c.take-before.new.self kept.others.entries c.self.invariant.0 c.args.key c.in-Some.slot of_key c.take-before.ensures.removed).0 in
    few_kept g.met.K.Ord.total g.met.K.Key.exact g.met.K.Key.narrow c.take-before.new.self kept.others.entries parted c.self.invariant.1

pub invariant_of-self-2 : goal.invariant_of-self-2
invariant_of-self-2 g c =
    let kept = c.self.inside in
    let others = c.remove-before.new.self.entries in
    let of_key = sym c.slot.ensures ∙ c.in_default.is in
    let gone = table-take g.met.K.Ord.total g.met.K.Key.exact kept.others.entries others c.args.key c.remove-before.ensures.updates.0 in
    ((taken_beside slots_total exact_slots g.met.K.Ord.total g.met.K.Key.exact g.met.K.Key.back kept.dense kept.others.entries others c.self.invariant.0 c.args.key of_key gone).0, omega (arith, c.remove-before.ensures.len, c.self.invariant.1))

pub returns-clause-before : goal.returns-clause-before
returns-clause-before g c =
    let kept = c.self.inside in
    c.remove-before.ensures.value ∙ sym (get-table g.met.K.Ord.total g.met.K.Key.exact kept.others.entries c.args.key)
    ∙ sym (read_others slots_total exact_slots g.met.K.Ord.total g.met.K.Key.exact g.met.K.Key.back kept.dense kept.others.entries c.self.invariant.0 c.args.key (sym c.slot.ensures ∙ c.in_default.is))
    ∙ ap (table_at g.K.Ord.cmp c.args.key) c.self.view_is

pub returns-clause-removed : goal.returns-clause-removed
returns-clause-removed g c =
    let kept = c.self.inside in
    let others = c.remove-before.new.self.entries in
    let of_key = sym c.slot.ensures ∙ c.in_default.is in
    let gone = table-take g.met.K.Ord.total g.met.K.Key.exact kept.others.entries others c.args.key c.remove-before.ensures.updates.0 in
    (taken_beside slots_total exact_slots g.met.K.Ord.total g.met.K.Key.exact g.met.K.Key.back kept.dense kept.others.entries others c.self.invariant.0 c.args.key of_key gone).1 ∙ ap (taken g.K.Ord.cmp c.args.key) c.self.view_is

pub returns-clause-few : goal.returns-clause-few
returns-clause-few g c =
    let kept = c.self.inside in
    let others = c.remove-before.new.self.entries in
    let of_key = sym c.slot.ensures ∙ c.in_default.is in
    let gone = table-take g.met.K.Ord.total g.met.K.Key.exact kept.others.entries others c.args.key c.remove-before.ensures.updates.0 in
    let parted = (taken_beside slots_total exact_slots g.met.K.Ord.total g.met.K.Key.exact g.met.K.Key.back kept.dense kept.others.entries others c.self.invariant.0 c.args.key of_key gone).0 in
    few_kept g.met.K.Ord.total g.met.K.Key.exact g.met.K.Key.narrow kept.dense others parted (omega (arith, c.remove-before.ensures.len, c.self.invariant.1))

use Rattle.std.proofs.Common.{sym, ap, subst, ◌∙◌, ◌<◌, ◌^◌, length, arith}
use Rattle.tabled_kept.specs.Kept.{Parted}
use Rattle.tabled_kept.proofs.KeptLemmas.{read_dense, read_others, put_in_slot, put_beside}
use Rattle.tabled_kept.proofs.FewSlots.{few_kept}
use Rattle.tabled_kept.proofs.Tables.{get-table, table-put, table_at, inserted}
use Rattle.tabled_kept.specs.Slots.{slots_total}
use Rattle.tabled_kept.proofs.TableLemmas.{exact_slots}
use Rattle.tabled_kept.proofs.entries.Entries.insert.Goals as goal

pub returns-in_default-put-clause-absent : goal.returns-in_default-put-clause-absent
returns-in_default-put-clause-absent g c =
    let kept = c.self.inside in
    sym (ap (table_at g.K.Ord.cmp c.args.key) c.self.view_is)
    ∙ read_dense slots_total exact_slots g.met.K.Ord.total g.met.K.Key.exact g.met.K.Key.back kept.dense kept.others.entries c.self.invariant.0 c.args.key c.in-Some.slot (sym c.slot.ensures ∙ c.in-Some.is) ∙ c.in_default-put.ensures.absent

pub returns-in_default-put-clause-few : goal.returns-in_default-put-clause-few
returns-in_default-put-clause-few g c =
    let others = c.self.inside.others.entries in
    let parted = subst (λ dense. Parted g.K.Ord.cmp g.K.Key.slot_of g.K.Key.key_at dense others) (sym c.in_default-put.ensures.err) c.self.invariant.0 in
    few_kept g.met.K.Ord.total g.met.K.Key.exact g.met.K.Key.narrow c.put.new.self others parted c.self.invariant.1

pub invariant_of-self-in-Some : goal.invariant_of-self-in-Some
invariant_of-self-in-Some g c =
    let kept = c.self.inside in
    let of_key = sym c.slot.ensures ∙ c.in-Some.is in
    ((put_in_slot slots_total exact_slots g.met.K.Ord.total g.met.K.Key.exact g.met.K.Key.back kept.dense c.put.new.self kept.others.entries c.self.invariant.0 c.args.key c.in-Some.slot of_key c.args.value c.in-Ok.ensures.ok).0, c.self.invariant.1)

pub returns-in-Some-clause-before : goal.returns-in-Some-clause-before
returns-in-Some-clause-before g c =
    let kept = c.self.inside in
    c.in-Ok.ensures.before ∙ sym (read_dense slots_total exact_slots g.met.K.Ord.total g.met.K.Key.exact g.met.K.Key.back kept.dense kept.others.entries c.self.invariant.0 c.args.key c.in-Some.slot (sym c.slot.ensures ∙ c.in-Some.is))
    ∙ ap (table_at g.K.Ord.cmp c.args.key) c.self.view_is

pub returns-in-Some-clause-ok : goal.returns-in-Some-clause-ok
returns-in-Some-clause-ok g c =
    let kept = c.self.inside in
    let of_key = sym c.slot.ensures ∙ c.in-Some.is in
    (put_in_slot slots_total exact_slots g.met.K.Ord.total g.met.K.Key.exact g.met.K.Key.back kept.dense c.put.new.self kept.others.entries c.self.invariant.0 c.args.key c.in-Some.slot of_key c.args.value c.in-Ok.ensures.ok).1
    ∙ ap (inserted g.K.Ord.cmp c.args.key c.args.value) c.self.view_is

pub returns-in-Some-clause-few : goal.returns-in-Some-clause-few
returns-in-Some-clause-few g c =
    let kept = c.self.inside in
    let of_key = sym c.slot.ensures ∙ c.in-Some.is in
    let parted = (put_in_slot slots_total exact_slots g.met.K.Ord.total g.met.K.Key.exact g.met.K.Key.back kept.dense c.put.new.self kept.others.entries c.self.invariant.0 c.args.key c.in-Some.slot of_key c.args.value c.in-Ok.ensures.ok).0 in
    few_kept g.met.K.Ord.total g.met.K.Key.exact g.met.K.Key.narrow c.put.new.self kept.others.entries parted c.self.invariant.1

pub returns-in_default-insert-clause-absent : goal.returns-in_default-insert-clause-absent
returns-in_default-insert-clause-absent g c =
    let kept = c.self.inside in
    sym (ap (table_at g.K.Ord.cmp c.args.key) c.self.view_is)
    ∙ read_others slots_total exact_slots g.met.K.Ord.total g.met.K.Key.exact g.met.K.Key.back kept.dense kept.others.entries c.self.invariant.0 c.args.key (sym c.slot.ensures ∙ c.in_default.is)
    ∙ get-table g.met.K.Ord.total g.met.K.Key.exact kept.others.entries c.args.key ∙ c.in_default-insert.ensures.absent

pub returns-in_default-insert-clause-few : goal.returns-in_default-insert-clause-few
returns-in_default-insert-clause-few g c =
    let kept = c.self.inside in
    let same = sym c.in_default-insert.ensures.err in
    let parted = subst (λ others. Parted g.K.Ord.cmp g.K.Key.slot_of g.K.Key.key_at kept.dense others) same c.self.invariant.0 in
    few_kept g.met.K.Ord.total g.met.K.Key.exact g.met.K.Key.narrow kept.dense c.insert.new.self.entries parted (subst (λ others. length others < 2 ^ 63) same c.self.invariant.1)

pub invariant_of-self-2 : goal.invariant_of-self-2
invariant_of-self-2 g c =
    let kept = c.self.inside in
    let others = c.insert.new.self.entries in
    let of_key = sym c.slot.ensures ∙ c.in_default.is in
    let put = table-put g.met.K.Ord.total g.met.K.Key.exact kept.others.entries others c.args.key c.args.value c.in-Ok-insert.ensures.updates.0 in
    ((put_beside slots_total exact_slots g.met.K.Ord.total g.met.K.Key.exact g.met.K.Key.back kept.dense kept.others.entries others c.self.invariant.0 c.args.key of_key c.args.value put).0, omega (arith, c.len.ensures.len, c.len.ensures.small))

pub returns-clause-before : goal.returns-clause-before
returns-clause-before g c =
    let kept = c.self.inside in
    c.in-Ok-insert.ensures.old ∙ sym (get-table g.met.K.Ord.total g.met.K.Key.exact kept.others.entries c.args.key)
    ∙ sym (read_others slots_total exact_slots g.met.K.Ord.total g.met.K.Key.exact g.met.K.Key.back kept.dense kept.others.entries c.self.invariant.0 c.args.key (sym c.slot.ensures ∙ c.in_default.is))
    ∙ ap (table_at g.K.Ord.cmp c.args.key) c.self.view_is

pub returns-clause-ok : goal.returns-clause-ok
returns-clause-ok g c =
    let kept = c.self.inside in
    let others = c.insert.new.self.entries in
    let of_key = sym c.slot.ensures ∙ c.in_default.is in
    let put = table-put g.met.K.Ord.total g.met.K.Key.exact kept.others.entries others c.args.key c.args.value c.in-Ok-insert.ensures.updates.0 in
    (put_beside slots_total exact_slots g.met.K.Ord.total g.met.K.Key.exact g.met.K.Key.back kept.dense kept.others.entries others c.self.invariant.0 c.args.key of_key c.args.value put).1 ∙ ap (inserted g.K.Ord.cmp c.args.key c.args.value) c.self.view_is

pub returns-clause-few : goal.returns-clause-few
returns-clause-few g c =
    let kept = c.self.inside in
    let others = c.insert.new.self.entries in
    let of_key = sym c.slot.ensures ∙ c.in_default.is in
    let put = table-put g.met.K.Ord.total g.met.K.Key.exact kept.others.entries others c.args.key c.args.value c.in-Ok-insert.ensures.updates.0 in
    let parted = (put_beside slots_total exact_slots g.met.K.Ord.total g.met.K.Key.exact g.met.K.Key.back kept.dense kept.others.entries others c.self.invariant.0 c.args.key of_key c.args.value put).0 in
    few_kept g.met.K.Ord.total g.met.K.Key.exact g.met.K.Key.narrow kept.dense others parted (omega (arith, c.len.ensures.len, c.len.ensures.small))

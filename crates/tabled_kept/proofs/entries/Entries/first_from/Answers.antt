-- The first of what the ordered map has from the key on.
use Rattle.std.proofs.Common.{◌≡◌, List, is_gt, false, sym, ap, subst, ◌∙◌}
use Rattle.std.specs.Prelude.{is_some, IfSome, slice_get}
use Rattle.std.specs.FinMap as map
use Rattle.std.specs.BTreeMap.{get}
use Rattle.std.specs.declared.ops.Bound.TheVariants.{Included, Unbounded}
use Rattle.std.specs.BTreeMap.Range.{IsEntryInRange}
use Rattle.tabled_kept.specs.Table.{table}
use Rattle.tabled_kept.proofs.KeptLemmas.{read_others}
use Rattle.tabled_kept.proofs.Tables.{get-table, table_at}
use Rattle.tabled_kept.specs.Slots.{slots_total}
use Rattle.tabled_kept.proofs.TableLemmas.{exact_slots}
use Rattle.tabled_kept.proofs.entries.Entries.first_from.Goals as goal

pub returns-in-None-clause-first : goal.returns-in-None-clause-first
returns-in-None-clause-first g c q from =
    let kept = c.self.inside in
    let same : get g.K.Ord.cmp kept.others q ≡ map.get (table g.K.Ord.cmp c.args.self.now) q =
    sym (get-table g.met.K.Ord.total g.met.K.Key.exact kept.others.entries q)
    ∙ sym (read_others slots_total exact_slots g.met.K.Ord.total g.met.K.Key.exact g.met.K.Key.back kept.dense kept.others.entries c.self.invariant.0 q (c.requires q))
    ∙ ap (table_at g.K.Ord.cmp q) c.self.view_is in
    sym same ∙ (c.range.ensures.in_range cc).5 c.in-None.ensures.steps.0 q (from, cc)

pub returns-in-Some-clause-first : goal.returns-in-Some-clause-first
returns-in-Some-clause-first g c =
    let kept = c.self.inside in
    let cmp = g.K.Ord.cmp in
    let same : (q : g.row.K.Denot) → get cmp kept.others q ≡ map.get (table cmp c.args.self.now) q =
    λ q. sym (get-table g.met.K.Ord.total g.met.K.Key.exact kept.others.entries q)
    ∙ sym (read_others slots_total exact_slots g.met.K.Ord.total g.met.K.Key.exact g.met.K.Key.back kept.dense kept.others.entries c.self.invariant.0 q (c.requires q))
    ∙ ap (table_at cmp q) c.self.view_is in
    let range = c.range.ensures.in_range cc in
    let there = subst (λ (entries : List (g.row.K.Denot × g.row.V.Denot)). IfSome (slice_get entries 0) (IsEntryInRange cmp (Included c.args.key) Unbounded kept.others)) c.in-Some.ensures.steps range.1 in (
      (there.0.0, ap is_some (sym (same c.in-Some.first.now) ∙ there.1)),
      λ q is. subst (λ (entries : List (g.row.K.Denot × g.row.V.Denot)). IfSome (slice_get entries 0) (λ e. is_gt (cmp e.0 q) ≡ false)) c.in-Some.ensures.steps (range.2 q (is.0, cc) (ap is_some (same q) ∙ is.1)),
    )

use Rattle.std.proofs.Common.{sym, ap, subst, ◌∙◌, ◌++◌, nat_cmp}
use Rattle.std.specs.List.Sorted.{IsStrictlySortedBy}
use Rattle.std.specs.Map.{keys_of}
use Rattle.std.specs.FinMap as map
use Rattle.tabled_kept.specs.Slots.{numbered}
use Rattle.tabled_kept.specs.Table.{table}
use Rattle.tabled_kept.proofs.NumberedLemmas.{all_in_row, in_order, entries_in_order}
use Rattle.tabled_kept.proofs.numbered.Entries+usize+V.iter.Goals as goal

pub returns-clause-entries : goal.returns-clause-entries
returns-clause-entries g c =
    let kept = c.self.inside in
    let row = all_in_row c.first_row.result.now kept.dense kept.others.entries c.self.invariant.0 c.first_row.ensures in
    ap (λ others. numbered 0 c.first_row.result.now ++ others) c.iter.ensures.rest
    ∙ entries_in_order c.first_row.result.now kept.dense kept.others.entries row c.self.invariant.0 c.iter.ensures.ordered
    ∙ ap (λ entries. map.entries (table nat_cmp entries)) c.self.view_is

pub returns-clause-rising : goal.returns-clause-rising
returns-clause-rising g c =
    let kept = c.self.inside in
    let row = all_in_row c.first_row.result.now kept.dense kept.others.entries c.self.invariant.0 c.first_row.ensures in
    subst (λ others. IsStrictlySortedBy nat_cmp (keys_of (numbered 0 c.first_row.result.now ++ others))) (sym c.iter.ensures.rest)
    (in_order c.first_row.result.now kept.dense kept.others.entries row c.self.invariant.0 c.iter.ensures.ordered)

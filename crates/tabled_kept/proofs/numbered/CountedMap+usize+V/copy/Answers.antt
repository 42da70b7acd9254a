use Rattle.std.proofs.Common.{sym, ap, subst, ◌∙◌, ◌++◌, append-nil, nat_cmp}
use Rattle.std.specs.List.Sorted.{IsStrictlySortedBy}
use Rattle.std.specs.Map.{keys_of}
use Rattle.std.specs.Cmp.{nat_cmp_total}
use Rattle.std.proofs.lemmas.Result.{IfOk-weaker}
use Rattle.tabled_kept.specs.Table.{table}
use Rattle.tabled_kept.proofs.Ascending.{table-entries}
use Rattle.tabled_kept.proofs.numbered.CountedMap+usize+V.copy.Goals as goal

pub returns : goal.returns
returns g c =
    let kept = table nat_cmp c.args.self.now in
    let copied = sym (append-nil c.loop-number.copies.items) ∙ ap (λ left. c.loop-number.copies.items ++ left) (sym c.in-None.ensures.steps.0) ∙ c.loop-number.invariant in
    let rising = subst (λ entries. IsStrictlySortedBy nat_cmp (keys_of entries)) c.iter-number-items.ensures.entries c.iter-number-items.ensures.rising in
    IfOk-weaker c.map_of.result _ _ (λ copy made. ap (table nat_cmp) (made ∙ copied) ∙ table-entries nat_cmp_total kept rising) c.map_of.ensures

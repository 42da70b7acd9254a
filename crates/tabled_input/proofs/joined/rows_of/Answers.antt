-- One row more is cut off.
use Rattle.std.proofs.Common.{◌++◌, sym, ap, ◌∙◌, arith, append-nil}
use Rattle.std.proofs.Math.ListN.{drop_of_length-le}
use Rattle.tabled_input.specs.Joined.{parts}
use Rattle.std.proofs.lemmas.List.{drop_more, map-append}
use Rattle.tabled_input.specs.Lines.{cells_of}
use Rattle.tabled_input.proofs.Joining.{both_texts, next_row}
use Rattle.tabled_input.proofs.joined.rows_of.Goals as goal

pub loop-count-preserved : goal.loop-count-preserved
loop-count-preserved c =
    let was = c.loop-count.invariant in
    let cut = c.split_at.ensures in
    let next = drop_more c.args.counts.now c.loop-count.count-index 0 (omega (arith, c.loop-count-test.true)) in
    let is = c.in_ok-row.ensures.parts _ (both_texts _ _ _ _ _ cut.front cut.back was.texts) in
    let all = next_row _ _ _ _ _ _ _ _ _ _ _ _ next was.cut was.texts was.within cut.front cut.back is (ap cells_of c.in_ok-push.ensures.items ∙ map-append _ c.loop-count.rows.items _) in
    record { utf8 = c.in_ok-row.ensures.utf8; cut = all.0; texts = all.1; within = all.2 }

pub returns : goal.returns
unfolding parts
returns c =
    let none = drop_of_length-le c.args.counts.now c.loop-count-test.false in
    sym (append-nil _) ∙ ap (λ counts. cells_of c.loop-count.rows.items ++ parts counts (parts c.loop-count.left.now c.loop-count.rest.now)) (sym none) ∙ c.loop-count.invariant.cut

-- Group by group: each reads the same texts and sizes, and what stands after those before it.
use Rattle.std.proofs.Common.{length, refl, subst, ◌∙◌}
use Rattle.tabled_object.specs.declared.dimension.FixedDimension.{FixedDimension}
use Rattle.tabled_grid.proofs.Seen.{on_ok}
use Rattle.tabled_width.specs.Texts.{Table}
use Rattle.tabled_measure.specs.Sizes.{column_count}
use Rattle.tabled_correction.specs.Correction.{correction_events}
use Rattle.tabled_correction.specs.Corners.{joined_corner_events}
use Rattle.tabled_kinds.specs.EveryKind.{first_targets, other_targets, InTurn}
use Rattle.tabled_kinds.proofs.Turns.{nothing_yet, then_one, then_those}
use Rattle.tabled_kinds.proofs.kinds.every_kind.Goals as goal

pub returns-clause-steps : goal.returns-clause-steps
returns-clause-steps c =
    let kinds = c.args.kinds in
    let others = c.args.others in
    let start = c.args.table.now in
    let texts : Table = start.texts in
    let sizes : FixedDimension = start.sizes in
    let texts_2 = c.every_first_target.ensures.texts in
    let texts_3 = c.every_other_target.ensures.texts ∙ texts_2 in
    let sizes_2 = c.every_first_target.ensures.sizes in
    let sizes_3 = c.every_other_target.ensures.sizes ∙ sizes_2 in
    let texts_4 = c.apply.ensures.texts ∙ texts_3 in
    let sizes_4 = c.apply.ensures.sizes ∙ sizes_3 in
    let first = c.every_first_target.new.table in
    let by_others = subst (λ others. InTurn (other_targets others (length first.texts, column_count first.texts)) first.config c.every_other_target.new.table.config) c.now.ensures c.in_ok-every_other_target.ensures.steps in
    on_ok c.apply-2.result (λ joined.
    then_one (λ t s before. joined_corner_events (length t, column_count t) before.spanned) _ texts _ sizes _ start.config _ _ texts_4 sizes_4
    (then_one (λ t s before. correction_events (length t, column_count t) before.spanned) _ texts _ sizes _ start.config _ _ texts_3 sizes_3
    (then_those (λ t s. other_targets others (length t, column_count t)) _ texts _ sizes _ start.config _ _ texts_2 sizes_2
    (then_those (λ t s. first_targets kinds t) _ texts _ sizes _ start.config _ _ refl refl (nothing_yet start.config) c.in_ok-every_first_target.ensures.steps)
    by_others)
    c.in_ok-apply.ensures.config.2)
    joined.2) c.apply-2.ensures.config

-- Option by option: each reads the same texts and sizes, and what stands after those before it.
use Rattle.std.proofs.Common.{[], ◌∷◌, length, refl, ◌∙◌}
use Rattle.tabled_object.specs.declared.dimension.FixedDimension.{FixedDimension}
use Rattle.tabled_object.specs.declared.entity.Entity.TheVariants.{Global, Row, Cell}
use Rattle.tabled_grid.proofs.Seen.{on_ok}
use Rattle.tabled_width.specs.Texts.{Table}
use Rattle.tabled_measure.specs.Sizes.{column_count}
use Rattle.tabled_correction.specs.Span.{span_events}
use Rattle.tabled_formatting.specs.Formatting.{padding_given}
use Rattle.tabled_formatting.specs.Margins.{margin_given}
use Rattle.tabled_kinds.proofs.Turns.{nothing_yet, then_one, then_those}
use Rattle.tabled_kinds.proofs.kinds.every_room.Goals as goal

pub returns-clause-steps : goal.returns-clause-steps
returns-clause-steps c =
    let kinds = c.args.kinds in
    let start = c.args.table.now in
    let texts : Table = start.texts in
    let sizes : FixedDimension = start.sizes in
    let texts_2 = c.apply.ensures.texts in
    let texts_3 = c.apply-2.ensures.texts ∙ texts_2 in
    let texts_4 = c.apply_to.ensures.texts ∙ texts_3 in
    let sizes_2 = c.apply.ensures.sizes in
    let sizes_3 = c.apply-2.ensures.sizes ∙ sizes_2 in
    let sizes_4 = c.apply_to.ensures.sizes ∙ sizes_3 in
    on_ok c.apply_to-2.result (λ last.
    then_those (λ t s. (λ before. span_events kinds.span (length t, column_count t) (Cell 0 0)) ∷ []) _ texts _ sizes _ start.config _ _ texts_4 sizes_4
    (then_those (λ t s. (λ before. padding_given kinds.inner (Row 1)) ∷ []) _ texts _ sizes _ start.config _ _ texts_3 sizes_3
    (then_one (λ t s before. padding_given kinds.padding Global) _ texts _ sizes _ start.config _ _ texts_2 sizes_2
    (then_one (λ t s before. margin_given kinds.margin) _ texts _ sizes _ start.config _ _ refl refl
    (nothing_yet start.config)
    c.in_ok-apply.ensures.config.2)
    c.in_ok-apply-2.ensures.config.2)
    c.in_ok-apply_to.ensures.config)
    last) c.apply_to-2.ensures.config

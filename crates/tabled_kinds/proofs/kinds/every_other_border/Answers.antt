-- Option by option: each reads the same texts and sizes, and what stands after those before it.
use Rattle.std.proofs.Common.{[], ◌∷◌, length, refl, ◌∙◌}
use Rattle.tabled_object.specs.declared.dimension.FixedDimension.{FixedDimension}
use Rattle.tabled_object.specs.declared.entity.Entity.TheVariants.{Row}
use Rattle.tabled_grid.proofs.Seen.{on_ok}
use Rattle.tabled_configuration.specs.Options.{table_bordered, entity_bordered, table_unbordered}
use Rattle.tabled_width.specs.Texts.{Table}
use Rattle.tabled_color.specs.BorderColors.{border_texts}
use Rattle.tabled_color.specs.Coloring.{table_colored}
use Rattle.tabled_measure.specs.Sizes.{column_count}
use Rattle.tabled_kinds.proofs.Turns.{nothing_yet, then_one, then_those}
use Rattle.tabled_kinds.proofs.kinds.every_other_border.Goals as goal

pub returns-clause-steps : goal.returns-clause-steps
returns-clause-steps c =
    let kinds = c.args.kinds in
    let start = c.args.table.now in
    let texts : Table = start.texts in
    let sizes : FixedDimension = start.sizes in
    let texts_2 = c.apply.ensures.texts in
    let texts_3 = c.apply-2.ensures.texts ∙ texts_2 in
    let texts_4 = c.apply_to.ensures.texts ∙ texts_3 in
    let sizes_2 = c.apply.ensures.sizes in
    let sizes_3 = c.apply-2.ensures.sizes ∙ sizes_2 in
    let sizes_4 = c.apply_to.ensures.sizes ∙ sizes_3 in
    on_ok c.apply-3.result (λ last.
    then_one (λ t s before. table_unbordered (length t, column_count t) before.spanned.characters.class_record) _ texts _ sizes _ start.config _ _ texts_4 sizes_4
    (then_those (λ t s. (λ before. entity_bordered kinds.around (length t, column_count t) (Row 1)) ∷ []) _ texts _ sizes _ start.config _ _ texts_3 sizes_3
    (then_one (λ t s before. table_bordered kinds.frame before.spanned.characters.class_record) _ texts _ sizes _ start.config _ _ texts_2 sizes_2
    (then_one (λ t s before. table_colored (border_texts kinds.colors) (length t, column_count t)) _ texts _ sizes _ start.config _ _ refl refl
    (nothing_yet start.config)
    c.in_ok-apply.ensures.config.2)
    c.in_ok-apply-2.ensures.config.2)
    c.in_ok-apply_to.ensures.config)
    last.2) c.apply-3.ensures.config

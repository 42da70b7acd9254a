-- Option by option: each reads the same texts and sizes, and what stands after those before it.
use Rattle.std.proofs.Common.{[], ◌∷◌, length, refl, ◌∙◌}
use Rattle.tabled_object.specs.declared.dimension.FixedDimension.{FixedDimension}
use Rattle.tabled_object.specs.declared.entity.Entity.TheVariants.{Column, Cell}
use Rattle.tabled_grid.proofs.Seen.{on_ok}
use Rattle.tabled_configuration.specs.Options.{table_bordered, entity_bordered, entity_unbordered}
use Rattle.tabled_width.specs.Texts.{Table}
use Rattle.tabled_color.specs.BorderColors.{border_texts}
use Rattle.tabled_color.specs.Coloring.{entity_colored}
use Rattle.tabled_measure.specs.Sizes.{column_count}
use Rattle.tabled_kinds.proofs.Turns.{nothing_yet, then_one, then_those}
use Rattle.tabled_kinds.proofs.kinds.every_edge.Goals as goal

pub returns-clause-steps : goal.returns-clause-steps
returns-clause-steps c =
    let start = c.args.table.now in
    let texts : Table = start.texts in
    let sizes : FixedDimension = start.sizes in
    let texts_2 = c.apply.ensures.texts in
    let texts_3 = c.apply_to.ensures.texts ∙ texts_2 in
    let texts_4 = c.apply_to-2.ensures.texts ∙ texts_3 in
    let sizes_2 = c.apply.ensures.sizes in
    let sizes_3 = c.apply_to.ensures.sizes ∙ sizes_2 in
    let sizes_4 = c.apply_to-2.ensures.sizes ∙ sizes_3 in
    on_ok c.apply_to-3.result (λ last.
    then_those (λ t s. (λ before. entity_unbordered (length t, column_count t) (Cell 0 0)) ∷ []) _ texts _ sizes _ start.config _ _ texts_4 sizes_4
    (then_those (λ t s. (λ before. entity_colored (border_texts c.args.colors.now) (length t, column_count t) (Cell 1 1)) ∷ []) _ texts _ sizes _ start.config _ _ texts_3 sizes_3
    (then_those (λ t s. (λ before. entity_bordered c.args.around.now (length t, column_count t) (Column 0)) ∷ []) _ texts _ sizes _ start.config _ _ texts_2 sizes_2
    (then_one (λ t s before. table_bordered c.args.frame before.spanned.characters.class_record) _ texts _ sizes _ start.config _ _ refl refl
    (nothing_yet start.config)
    c.in_ok-apply.ensures.config.2)
    c.in_ok-apply_to.ensures.config)
    c.in_ok-apply_to-2.ensures.config)
    last) c.apply_to-3.ensures.config

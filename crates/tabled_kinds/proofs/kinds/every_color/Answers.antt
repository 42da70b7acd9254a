-- Option by option: each reads the same texts and sizes, and what stands after those before it.
use Rattle.std.proofs.Common.{[], ◌∷◌, length, refl, ◌∙◌}
use Rattle.tabled_object.specs.declared.dimension.FixedDimension.{FixedDimension}
use Rattle.tabled_object.specs.declared.entity.Entity.TheVariants.{Global, Row, Column}
use Rattle.tabled_settings.specs.Setting.{write_of}
use Rattle.tabled_grid.proofs.Seen.{on_ok, where_ok}
use Rattle.tabled_configuration.specs.Colored.{by_cell_color}
use Rattle.tabled_changes.specs.EntitiesColored.{entities_colored}
use Rattle.tabled_width.specs.Texts.{Table}
use Rattle.tabled_color.specs.Shade.{Shade, texts_of}
use Rattle.tabled_colorization.specs.Turns.{colorization, exact_colorization}
use Rattle.tabled_formatting.specs.Formatting.{padding_set}
use Rattle.tabled_formatting.specs.Margins.{margin_colored, shadow_set}
use Rattle.tabled_measure.specs.Sizes.{column_count}
use Rattle.tabled_kinds.proofs.Turns.{nothing_yet, then_one, then_those}
use Rattle.tabled_kinds.proofs.kinds.every_color.Goals as goal

pub returns-clause-steps : goal.returns-clause-steps
returns-clause-steps c =
    let kinds = c.args.kinds in
    let start = c.args.table.now in
    let texts : Table = start.texts in
    let sizes : FixedDimension = start.sizes in
    let texts_2 = c.apply_to-done.ensures.texts in
    let texts_3 = c.apply_after-done.ensures.texts ∙ texts_2 in
    let texts_4 = c.apply_after-done-2.ensures.texts ∙ texts_3 in
    let texts_5 = c.apply_after-done-3.ensures.texts ∙ texts_4 in
    let texts_6 = c.apply_after-done-4.ensures.texts ∙ texts_5 in
    let sizes_2 = c.apply_to-done.ensures.sizes in
    let sizes_3 = c.apply_after-done.ensures.sizes ∙ sizes_2 in
    let sizes_4 = c.apply_after-done-2.ensures.sizes ∙ sizes_3 in
    let sizes_5 = c.apply_after-done-3.ensures.sizes ∙ sizes_4 in
    let sizes_6 = c.apply_after-done-4.ensures.sizes ∙ sizes_5 in
    on_ok c.apply_after.result (λ last.
    let fifth = where_ok _ last.0 c.apply_after-done-4.ensures.config in
    let fourth = where_ok _ fifth.0 c.apply_after-done-3.ensures.config in
    let third = where_ok _ fourth.0 c.apply_after-done-2.ensures.config in
    let second = where_ok _ third.0 c.apply_after-done.ensures.config in
    let first = where_ok _ second.0 c.apply_to-done.ensures.config in
    then_one (λ t s before. shadow_set kinds.shadow) _ texts _ sizes _ start.config _ _ texts_6 sizes_6
    (then_one (λ t s before. margin_colored (λ (color : Shade). color.prefix) (λ (color : Shade). color.suffix) kinds.margin) _ texts _ sizes _ start.config _ _ texts_5 sizes_5
    (then_one (λ t s before. entities_colored (exact_colorization kinds.exact.colors (Column kinds.exact.target.index ∷ []))) _ texts _ sizes _ start.config _ _ texts_4 sizes_4
    (then_one (λ t s before. entities_colored (colorization kinds.in_turn (length t) (column_count t))) _ texts _ sizes _ start.config _ _ texts_3 sizes_3
    (then_one (λ t s before. padding_set (λ (color : Shade). color.prefix) (λ (color : Shade). color.suffix) kinds.padding Global) _ texts _ sizes _ start.config _ _ texts_2 sizes_2
    (then_those (λ t s. (λ before. by_cell_color (write_of (Row 0) (texts_of kinds.row))) ∷ []) _ texts _ sizes _ start.config _ _ refl refl
    (nothing_yet start.config)
    first)
    second.3)
    third.3)
    fourth.3)
    fifth.3)
    last.3) c.apply_after.ensures.config

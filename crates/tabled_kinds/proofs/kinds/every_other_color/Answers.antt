-- Option by option: each reads the same texts and sizes, and what stands after those before it.
use Rattle.std.proofs.Common.{[], ◌∷◌, refl, ◌∙◌}
use Rattle.tabled_object.specs.declared.dimension.FixedDimension.{FixedDimension}
use Rattle.tabled_object.specs.declared.entity.Entity.TheVariants.{Global, Row}
use Rattle.tabled_settings.specs.Setting.{write_of}
use Rattle.tabled_grid.proofs.Seen.{on_ok, where_ok}
use Rattle.tabled_configuration.specs.Colored.{by_cell_color}
use Rattle.tabled_width.specs.Texts.{Table}
use Rattle.tabled_color.specs.Shade.{Shade, texts_of}
use Rattle.tabled_formatting.specs.Formatting.{justification_set, padding_set}
use Rattle.tabled_kinds.proofs.Turns.{nothing_yet, then_one, then_those}
use Rattle.tabled_kinds.proofs.kinds.every_other_color.Goals as goal

pub returns-clause-steps : goal.returns-clause-steps
returns-clause-steps c =
    let start = c.args.table.now in
    let texts : Table = start.texts in
    let sizes : FixedDimension = start.sizes in
    let texts_2 = c.apply_to-done.ensures.texts in
    let texts_3 = c.apply_after-done.ensures.texts ∙ texts_2 in
    let sizes_2 = c.apply_to-done.ensures.sizes in
    let sizes_3 = c.apply_after-done.ensures.sizes ∙ sizes_2 in
    on_ok c.apply_after.result (λ last.
    let second = where_ok _ last.0 c.apply_after-done.ensures.config in
    let first = where_ok _ second.0 c.apply_to-done.ensures.config in
    then_one (λ t s before. by_cell_color (write_of Global (texts_of c.args.color))) _ texts _ sizes _ start.config _ _ texts_3 sizes_3
    (then_one (λ t s before. justification_set c.args.justification Global) _ texts _ sizes _ start.config _ _ texts_2 sizes_2
    (then_those (λ t s. (λ before. padding_set (λ (color : Shade). color.prefix) (λ (color : Shade). color.suffix) c.args.padding (Row 0)) ∷ []) _ texts _ sizes _ start.config _ _ refl refl
    (nothing_yet start.config)
    first)
    second.3)
    last.3) c.apply_after.ensures.config

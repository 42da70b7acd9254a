-- Option by option: each reads the same texts and sizes, and what stands after those before it.
use Rattle.std.proofs.Common.{[], ◌∷◌, length, refl, ◌∙◌}
use Rattle.tabled_object.specs.declared.dimension.FixedDimension.{FixedDimension}
use Rattle.tabled_object.specs.declared.entity.Entity.TheVariants.{Global, Column}
use Rattle.tabled_grid.proofs.Seen.{on_ok}
use Rattle.tabled_width.specs.Texts.{Table}
use Rattle.tabled_measure.specs.Sizes.{column_count}
use Rattle.tabled_formatting.specs.Formatting.{alignment_set, strategy_set, trim_set}
use Rattle.tabled_kinds.specs.EveryKind.{other_colors, whole_colors}
use Rattle.tabled_kinds.proofs.Turns.{nothing_yet, then_one, then_those}
use Rattle.tabled_kinds.proofs.kinds.every_other_setting.Goals as goal

pub returns-clause-steps : goal.returns-clause-steps
returns-clause-steps c =
    let kinds = c.args.kinds in
    let start = c.args.table.now in
    let texts : Table = start.texts in
    let sizes : FixedDimension = start.sizes in
    let texts_2 = c.every_other_color.ensures.texts in
    let texts_3 = c.every_whole_color.ensures.texts ∙ texts_2 in
    let texts_4 = c.apply_to.ensures.texts ∙ texts_3 in
    let texts_5 = c.apply.ensures.texts ∙ texts_4 in
    let sizes_2 = c.every_other_color.ensures.sizes in
    let sizes_3 = c.every_whole_color.ensures.sizes ∙ sizes_2 in
    let sizes_4 = c.apply_to.ensures.sizes ∙ sizes_3 in
    let sizes_5 = c.apply.ensures.sizes ∙ sizes_4 in
    on_ok c.apply-2.result (λ last.
    then_one (λ t s before. trim_set kinds.trim Global) _ texts _ sizes _ start.config _ _ texts_5 sizes_5
    (then_one (λ t s before. strategy_set kinds.strategy Global) _ texts _ sizes _ start.config _ _ texts_4 sizes_4
    (then_those (λ t s. (λ before. alignment_set kinds.alignment (Column 0)) ∷ []) _ texts _ sizes _ start.config _ _ texts_3 sizes_3
    (then_those (λ t s. whole_colors kinds.whole kinds.joined (length t, column_count t)) _ texts _ sizes _ start.config _ _ texts_2 sizes_2
    (then_those (λ t s. other_colors kinds.color kinds.padding kinds.justification) _ texts _ sizes _ start.config _ _ refl refl
    (nothing_yet start.config)
    c.in_ok-every_other_color.ensures.steps)
    c.in_ok-every_whole_color.ensures.steps)
    c.in_ok-apply_to.ensures.config)
    c.in_ok-apply.ensures.config.2)
    last.2) c.apply-2.ensures.config

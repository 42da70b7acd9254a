-- Option by option: each reads the same texts and sizes, and what stands after those before it.
use Rattle.std.proofs.Common.{[], refl, ◌∙◌}
use Rattle.tabled_object.specs.declared.dimension.FixedDimension.{FixedDimension}
use Rattle.tabled_grid.proofs.Seen.{on_ok}
use Rattle.tabled_configuration.specs.Configuration.{borders_replaced}
use Rattle.tabled_width.specs.Texts.{Table}
use Rattle.tabled_style.specs.Named.{ready_applied}
use Rattle.tabled_theme.specs.Events.{theme_applied}
use Rattle.tabled_kinds.proofs.Turns.{nothing_yet, then_one}
use Rattle.tabled_kinds.proofs.kinds.every_style.Goals as goal

pub returns-clause-steps : goal.returns-clause-steps
returns-clause-steps c =
    let start = c.args.table.now in
    let texts : Table = start.texts in
    let sizes : FixedDimension = start.sizes in
    let texts_2 = c.apply.ensures.texts in
    let texts_3 = c.apply-2.ensures.texts ∙ texts_2 in
    let texts_4 = c.apply-3.ensures.texts ∙ texts_3 in
    let sizes_2 = c.apply.ensures.sizes in
    let sizes_3 = c.apply-2.ensures.sizes ∙ sizes_2 in
    let sizes_4 = c.apply-3.ensures.sizes ∙ sizes_3 in
    on_ok c.apply-4.result (λ last.
    then_one (λ t s before. borders_replaced c.args.characters [] []) _ texts _ sizes _ start.config _ _ texts_4 sizes_4
    (then_one (λ t s before. ready_applied c.args.ready) _ texts _ sizes _ start.config _ _ texts_3 sizes_3
    (then_one (λ t s before. borders_replaced c.args.style.borders c.args.style.horizontals c.args.style.verticals) _ texts _ sizes _ start.config _ _ texts_2 sizes_2
    (then_one (λ t s before. theme_applied c.args.theme) _ texts _ sizes _ start.config _ _ refl refl
    (nothing_yet start.config)
    c.in_ok-apply.ensures.config.2)
    c.in_ok-apply-2.ensures.config.2)
    c.in_ok-apply-3.ensures.config.2)
    last.2) c.apply-4.ensures.config

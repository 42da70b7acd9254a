-- Option by option: each reads the same texts and sizes, and what stands after those before it.
use Rattle.std.proofs.Common.{length, refl}
use Rattle.tabled_object.specs.declared.dimension.FixedDimension.{FixedDimension}
use Rattle.tabled_grid.proofs.Seen.{on_ok}
use Rattle.tabled_width.specs.Texts.{Table}
use Rattle.tabled_measure.specs.Sizes.{column_count}
use Rattle.tabled_kinds.specs.EveryKind.{style_options, edge_options}
use Rattle.tabled_kinds.proofs.Turns.{nothing_yet, then_those}
use Rattle.tabled_kinds.proofs.kinds.every_border.Goals as goal

pub returns-clause-steps : goal.returns-clause-steps
returns-clause-steps c =
    let kinds = c.args.kinds in
    let start = c.args.table.now in
    let texts : Table = start.texts in
    let sizes : FixedDimension = start.sizes in
    let texts_2 = c.every_style.ensures.texts in
    let sizes_2 = c.every_style.ensures.sizes in
    on_ok c.every_edge.result (λ last.
    then_those (λ t s. edge_options kinds.frame kinds.around kinds.colors (length t, column_count t)) _ texts _ sizes _ start.config _ _ texts_2 sizes_2
    (then_those (λ t s. style_options kinds.theme kinds.style kinds.ready kinds.characters) _ texts _ sizes _ start.config _ _ refl refl
    (nothing_yet start.config)
    c.in_ok-every_style.ensures.steps)
    last) c.every_edge.ensures.steps

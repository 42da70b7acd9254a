-- Group by group: each reads the same texts and sizes, and what stands after those before it.
use Rattle.std.proofs.Common.{length, refl, subst, ◌∙◌}
use Rattle.tabled_object.specs.declared.dimension.FixedDimension.{FixedDimension}
use Rattle.tabled_grid.proofs.Seen.{on_ok}
use Rattle.tabled_width.specs.Texts.{Table}
use Rattle.tabled_measure.specs.Sizes.{column_count}
use Rattle.tabled_kinds.specs.EveryKind.{border_options, line_options, color_options, text_options, room_options, InTurn}
use Rattle.tabled_kinds.proofs.Turns.{nothing_yet, then_those}
use Rattle.tabled_kinds.proofs.kinds.every_first_target.Goals as goal

pub returns-clause-steps : goal.returns-clause-steps
returns-clause-steps c =
    let kinds = c.args.kinds in
    let start = c.args.table.now in
    let texts : Table = start.texts in
    let sizes : FixedDimension = start.sizes in
    let texts_2 = c.every_border.ensures.texts in
    let texts_3 = c.every_line.ensures.texts ∙ texts_2 in
    let texts_4 = c.every_color.ensures.texts ∙ texts_3 in
    let sizes_2 = c.every_border.ensures.sizes in
    let sizes_3 = c.every_line.ensures.sizes ∙ sizes_2 in
    let sizes_4 = c.every_color.ensures.sizes ∙ sizes_3 in
    let texts_5 = c.every_text.ensures.texts ∙ texts_4 in
    let sizes_5 = c.every_text.ensures.sizes ∙ sizes_4 in
    let bordered = c.every_border.new.table in
    let lined = c.every_line.new.table in
    let colored = c.every_color.new.table in
    let aligned = c.every_text.new.table in
    let by_lines = subst (λ lines. InTurn (line_options lines bordered.texts) bordered.config lined.config) c.now.ensures c.in_ok-every_line.ensures.steps in
    let by_colors = subst (λ colors. InTurn (color_options colors (length lined.texts, column_count lined.texts)) lined.config colored.config) c.now-2.ensures c.in_ok-every_color.ensures.steps in
    let by_texts = subst (λ texts. InTurn (text_options texts) colored.config aligned.config) c.now-3.ensures c.in_ok-every_text.ensures.steps in
    on_ok c.every_room.result (λ last.
    then_those (λ t s. room_options kinds.rooms (length t, column_count t)) _ texts _ sizes _ start.config _ _ texts_5 sizes_5
    (then_those (λ t s. text_options kinds.texts) _ texts _ sizes _ start.config _ _ texts_4 sizes_4
    (then_those (λ t s. color_options kinds.colors (length t, column_count t)) _ texts _ sizes _ start.config _ _ texts_3 sizes_3
    (then_those (λ t s. line_options kinds.lines t) _ texts _ sizes _ start.config _ _ texts_2 sizes_2
    (then_those (λ t s. border_options kinds.borders (length t, column_count t)) _ texts _ sizes _ start.config _ _ refl refl (nothing_yet start.config) c.in_ok-every_border.ensures.steps)
    by_lines) by_colors) by_texts)
    last) c.every_room.ensures.steps

-- Group by group: each reads the same texts and sizes, and what stands after those before it.
use Rattle.std.proofs.Common.{length, refl, subst}
use Rattle.tabled_object.specs.declared.dimension.FixedDimension.{FixedDimension}
use Rattle.tabled_grid.proofs.Seen.{on_ok}
use Rattle.tabled_width.specs.Texts.{Table}
use Rattle.tabled_measure.specs.Sizes.{column_count}
use Rattle.tabled_kinds.specs.EveryKind.{other_borders, other_settings, InTurn}
use Rattle.tabled_kinds.proofs.Turns.{nothing_yet, then_those}
use Rattle.tabled_kinds.proofs.kinds.every_other_target.Goals as goal

pub returns-clause-steps : goal.returns-clause-steps
returns-clause-steps c =
    let others = c.args.others in
    let start = c.args.table.now in
    let texts : Table = start.texts in
    let sizes : FixedDimension = start.sizes in
    let bordered = c.every_other_border.new.table in
    on_ok c.every_other_setting.result (λ last.
    then_those (λ t s. other_settings others.settings (length t, column_count t)) _ texts _ sizes _ start.config _ _ c.every_other_border.ensures.texts c.every_other_border.ensures.sizes
    (then_those (λ t s. other_borders others.borders (length t, column_count t)) _ texts _ sizes _ start.config _ _ refl refl (nothing_yet start.config) c.in_ok-every_other_border.ensures.steps)
    (subst (λ settings. InTurn (other_settings settings (length bordered.texts, column_count bordered.texts)) bordered.config c.every_other_setting.new.table.config) c.now.ensures last)) c.every_other_setting.ensures.steps

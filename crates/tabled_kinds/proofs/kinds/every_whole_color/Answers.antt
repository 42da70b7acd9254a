-- One option after the other: the second reads the colors that the first leaves.
use Rattle.std.proofs.Common.{[], ◌∷◌, length, refl}
use Rattle.tabled_object.specs.Entities.{cells_of}
use Rattle.tabled_object.specs.declared.dimension.FixedDimension.{FixedDimension}
use Rattle.tabled_object.specs.declared.entity.Entity.TheVariants.{Column, Row}
use Rattle.tabled_grid.proofs.Seen.{on_ok}
use Rattle.tabled_changes.specs.EntitiesColored.{entities_colored}
use Rattle.tabled_width.specs.Texts.{Table}
use Rattle.tabled_color.specs.Shade.{texts_of}
use Rattle.tabled_colorization.specs.Joined.{cells_joined}
use Rattle.tabled_measure.specs.Sizes.{column_count}
use Rattle.tabled_kinds.proofs.Turns.{nothing_yet, then_those}
use Rattle.tabled_kinds.proofs.kinds.every_whole_color.Goals as goal

pub returns-clause-steps : goal.returns-clause-steps
returns-clause-steps c =
    let start = c.args.table.now in
    let texts : Table = start.texts in
    let sizes : FixedDimension = start.sizes in
    on_ok c.apply_to-2.result (λ last.
    then_those (λ t s. (λ before. entities_colored (cells_joined c.args.joined before.cell_colors (cells_of (Column 0) (length t) (column_count t)))) ∷ []) _ texts _ sizes _ start.config _ _ c.apply_to.ensures.texts c.apply_to.ensures.sizes
    (then_those (λ t s. (λ before. entities_colored ((Row 1, texts_of c.args.whole) ∷ [])) ∷ []) _ texts _ sizes _ start.config _ _ refl refl
    (nothing_yet start.config)
    c.in_ok-apply_to.ensures.config)
    last) c.apply_to-2.ensures.config

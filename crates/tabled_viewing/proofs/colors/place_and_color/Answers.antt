-- The sides, and then the colors.
use Rattle.std.proofs.Common.{◌++◌, subst}
use Rattle.tabled_configuration.specs.Colored.{Changes}
use Rattle.tabled_changes.proofs.ColoredLemmas.{Shows_after_change_colored}
use Rattle.tabled_grid.proofs.Seen.{on_ok}
use Rattle.tabled_width.specs.Texts.{Table}
use Rattle.tabled_viewing.specs.Colors.{aligned, colored_if}
use Rattle.tabled_viewing.proofs.colors.place_and_color.Goals as goal

pub returns-clause-config : goal.returns-clause-config
returns-clause-config g c = λ before shows.
    let table = c.args.table.now in
    on_ok c.color_if.result (λ changes.
    Shows_after_change_colored (before ++ aligned 0 c.args.sides.now) (colored_if c.args.is_colored c.args.request table.texts) c.align.new.table.config c.color_if.new.table.config
    (subst (λ (texts : Table). Changes (colored_if c.args.is_colored c.args.request texts) c.align.new.table.config c.color_if.new.table.config) c.in_ok-align.ensures.texts changes)
    (Shows_after_change_colored before (aligned 0 c.args.sides.now) table.config c.align.new.table.config c.in_ok-align.ensures.config shows))
    c.color_if.ensures.config

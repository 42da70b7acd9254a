-- The stripes are wanted, or not.
use Rattle.std.proofs.Common.{length, subst}
use Rattle.tabled_configuration.specs.Colored.{Changes}
use Rattle.tabled_changes.specs.EntitiesColored.{entities_colored}
use Rattle.tabled_colorization.specs.Turns.{Colorizing, colorization}
use Rattle.tabled_grid.proofs.Seen.{on_ok}
use Rattle.tabled_measure.specs.Sizes.{column_count}
use Rattle.tabled_viewing.specs.Colors.{striped}
use Rattle.tabled_viewing.proofs.Applied.{unwanted, wanted}
use Rattle.tabled_viewing.proofs.colors.stripe.Goals as goal

pub returns-then-not-is_wanted-clause-config : goal.returns-then-not-is_wanted-clause-config
returns-then-not-is_wanted-clause-config g c = unwanted c.args.is_wanted (striped c.args.table.now.texts) c.args.table.now.config c.if-not-is_wanted.true

pub returns-clause-config : goal.returns-clause-config
unfolding striped
returns-clause-config g c =
    let table = c.args.table.now in
    on_ok c.apply.result (λ changed.
    wanted c.args.is_wanted (striped table.texts) table.config c.apply.new.self.config c.if-not-is_wanted.false
    (subst (λ (given : Colorizing). Changes (entities_colored (colorization given (length table.texts) (column_count table.texts))) table.config c.apply.new.self.config) c.in_ok-stripes.ensures changed.2))
    c.apply.ensures.config

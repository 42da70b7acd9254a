-- One column is listed, where it does not stand at the left.
use Rattle.std.proofs.Common.{sym, subst}
use Rattle.tabled_configuration.specs.ChangeLaws.{none_change}
use Rattle.tabled_configuration.specs.Colored.{Changes}
use Rattle.tabled_formatting.specs.declared.alignment.Alignment.TheVariants.{Horizontal}
use Rattle.tabled_grid.proofs.Seen.{on_ok}
use Rattle.tabled_request.specs.declared.sides.ColumnSide.{ColumnSide}
use Rattle.tabled_settings.specs.declared.alignment.AlignmentHorizontal.TheVariants as horizontal
use Rattle.tabled_viewing.specs.Colors.{aligned_column}
use Rattle.tabled_viewing.proofs.Applied.{column_set}
use Rattle.tabled_viewing.proofs.colors.align_column.Goals as goal

pub returns-in-Left-clause-config : goal.returns-in-Left-clause-config
returns-in-Left-clause-config g c =
    let table = c.args.table.now.config in
    subst (λ (side : ColumnSide). Changes (aligned_column side c.args.col) table table) (sym c.in-Left.is) (none_change table)

pub returns-in-Center-clause-config : goal.returns-in-Center-clause-config
returns-in-Center-clause-config g c =
    let old = c.args.table.now.config in
    let new = c.apply_to.new.self.config in
    on_ok c.apply_to.result (λ made.
    subst (λ (side : ColumnSide). Changes (aligned_column side c.args.col) old new) (sym c.in-Center.is)
    (column_set c.center.result (Horizontal horizontal.Center) c.one.result.index c.args.col made.0 old new c.center.ensures c.one.ensures made.1))
    c.apply_to.ensures.config

pub returns-in-Right-clause-config : goal.returns-in-Right-clause-config
returns-in-Right-clause-config g c =
    let old = c.args.table.now.config in
    let new = c.apply_to-in-Right.new.self.config in
    on_ok c.apply_to-in-Right.result (λ made.
    subst (λ (side : ColumnSide). Changes (aligned_column side c.args.col) old new) (sym c.in-Right.is)
    (column_set c.right.result (Horizontal horizontal.Right) c.one-in-Right.result.index c.args.col made.0 old new c.right.ensures c.one-in-Right.ensures made.1))
    c.apply_to-in-Right.ensures.config

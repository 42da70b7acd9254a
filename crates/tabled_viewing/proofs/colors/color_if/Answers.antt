-- There are colors, or not.
use Rattle.tabled_grid.proofs.Seen.{on_ok}
use Rattle.tabled_viewing.specs.Colors.{colored}
use Rattle.tabled_viewing.proofs.Applied.{unwanted, wanted}
use Rattle.tabled_viewing.proofs.colors.color_if.Goals as goal

pub returns-then-not-is_colored-clause-config : goal.returns-then-not-is_colored-clause-config
returns-then-not-is_colored-clause-config g c = unwanted c.args.is_colored (colored c.args.request c.args.table.now.texts) c.args.table.now.config c.if-not-is_colored.true

pub returns-clause-config : goal.returns-clause-config
returns-clause-config g c =
    on_ok c.color.result
    (λ changes. wanted c.args.is_colored (colored c.args.request c.args.table.now.texts) c.args.table.now.config c.color.new.table.config c.if-not-is_colored.false changes)
    c.color.ensures.config

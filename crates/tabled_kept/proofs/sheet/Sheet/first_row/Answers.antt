use Rattle.std.proofs.Common.{◌∙◌}
use Rattle.tabled_kept.proofs.SheetLemmas.{in_first_row}
use Rattle.tabled_kept.proofs.sheet.Sheet.first_row.Goals as goal

pub returns : goal.returns
returns g c col = c.first_row.ensures col ∙ in_first_row c.self.inside.near c.self.inside.far.entries c.self.invariant c.args.self.now c.self.view_is col

-- Nothing takes no columns.
use Rattle.std.proofs.Common.{sym, ap, ◌∙◌}
use Rattle.tabled_width.specs.Texts.{width_of_text}
use Rattle.tabled_width.proofs.AfterSpace.{nothing_wide}
use Rattle.tabled_width.proofs.rows.FilledRow.clear.Goals as goal

pub returns-clause-measured : goal.returns-clause-measured
returns-clause-measured c = nothing_wide ∙ ap width_of_text (sym c.clear.ensures.bytes)

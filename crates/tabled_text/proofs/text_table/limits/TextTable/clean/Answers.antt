-- Each cell is cleaned, or is clean.
use Rattle.std.proofs.Common.{subst, sym}
use Rattle.tabled_grid.proofs.Seen.{on_ok}
use Rattle.tabled_measure.specs.Changed.{CellsAreClean}
use Rattle.tabled_text.proofs.text_table.limits.TextTable.clean.Goals as goal

pub returns-then-is_clean-clause-texts : goal.returns-then-is_clean-clause-texts
returns-then-is_clean-clause-texts c = sym (c.is_clean.ensures.stays c.if-is_clean.true)

pub returns-then-is_clean-clause-clean : goal.returns-then-is_clean-clause-clean
returns-then-is_clean-clause-clean c = c.is_clean.ensures.clean c.if-is_clean.true

pub returns-clause-clean : goal.returns-clause-clean
returns-clause-clean c = on_ok c.change_texts.result (λ same. subst CellsAreClean (sym same) c.is_clean.ensures.cleans) c.change_texts.ensures.texts

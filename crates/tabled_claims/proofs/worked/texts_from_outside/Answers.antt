-- The text of a table that shows narrow writes alone, of which none steers, and whose cells were cleaned.
use Rattle.std.proofs.Common.{sym, ap, subst, ◌∙◌}
use Rattle.tabled_clean.specs.Steering.{is_clean}
use Rattle.tabled_measure.specs.Changed.{CellsAreClean}
use Rattle.tabled_claims.proofs.CleanTexts.{quiet_clean}
use Rattle.tabled_claims.proofs.CleanPictures.{text_quiet}
use Rattle.tabled_text.proofs.SpannedEven.{apart_alone, stand_apart}
use Rattle.tabled_claims.proofs.worked.texts_from_outside.Goals as goal

pub returns-clause-rectangle : goal.returns-clause-rectangle
returns-clause-rectangle c = let shown = c.in_ok-entitled.ensures.shown in (_, c.in_ok-text.ensures.rectangle shown.0 shown.1 shown.2 (stand_apart shown.0 _ (apart_alone shown.0 shown.4)))

pub returns-clause-clean : goal.returns-clause-clean
returns-clause-clean c =
    let shown = c.in_ok-entitled.ensures.shown in
    let cells = subst CellsAreClean (sym c.in_ok-entitled.ensures.texts) c.in_ok-clean.ensures.clean in
    ap is_clean (c.in_ok-text.ensures.text shown.0 shown.1) ∙ quiet_clean _ (text_quiet shown.0 c.entitled.new.table.texts cells shown.3)

-- The text of a table that shows narrow writes alone.
use Rattle.tabled_text.proofs.SpannedEven.{apart_alone, stand_apart}
use Rattle.tabled_claims.proofs.worked.framed_with_a_title.Goals as goal

pub returns : goal.returns
returns c = let shown = c.in_ok-entitled.ensures.shown in (_, c.in_ok-text.ensures.rectangle shown.0 shown.1 shown.2 (stand_apart shown.0 _ (apart_alone shown.0 shown.4)))

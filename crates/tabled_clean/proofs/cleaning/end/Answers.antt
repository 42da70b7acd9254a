-- The carriage return is shown.
use Rattle.tabled_clean.proofs.SteeringLemmas.{ends_whole, ends_with_return}
use Rattle.tabled_clean.proofs.cleaning.end.Goals as goal

pub returns-then-not-is_held : goal.returns-then-not-is_held
returns-then-not-is_held c = ends_whole _ c.args.is_held c.if-not-is_held.true

pub returns : goal.returns
returns c = ends_with_return _ _ c.args.is_held c.if-not-is_held.false c.in_ok-push.ensures.bytes

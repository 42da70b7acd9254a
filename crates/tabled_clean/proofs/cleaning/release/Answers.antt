-- The carriage return is dropped, or shown.
use Rattle.std.proofs.Common.{arith}
use Rattle.std.proofs.lemmas.Bool.Decides.{nat_tests}
use Rattle.tabled_clean.proofs.SteeringLemmas.{drops_return, shows_return}
use Rattle.tabled_clean.proofs.cleaning.release.Goals as goal

pub returns-then-next-eq10 : goal.returns-then-next-eq10
returns-then-next-eq10 c = λ more. drops_return _ c.args.is_held c.args.next more c.if-not-is_held.false (grind (arith, nat_tests, c.if-next-eq10.true))

pub returns : goal.returns
returns c = λ more. shows_return _ _ c.args.is_held c.args.next more c.if-not-is_held.false (grind (arith, nat_tests, c.if-next-eq10.false)) c.in_ok-push.ensures.bytes

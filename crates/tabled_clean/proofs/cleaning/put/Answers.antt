-- The character is shown.
use Rattle.std.proofs.Common.{arith, ap, ◌∙◌, ◌++◌, encode_utf8, string_bytes}
use Rattle.std.proofs.lemmas.Bool.Decides.{nat_tests}
use Rattle.tabled_clean.proofs.SteeringLemmas.{shows}
use Rattle.tabled_clean.proofs.cleaning.put.Goals as goal

pub returns : goal.returns
returns c = λ more.
    shows _ (string_bytes c.release.new.clean) _ c.args.is_held c.args.character more (grind (arith, nat_tests, c.if-character-eq13.false)) (c.in_ok-release.ensures more)
    (c.in_ok-push.ensures.bytes ∙ ap (λ shown. string_bytes c.release.new.clean ++ encode_utf8 shown) c.shown_for.ensures)

use Rattle.std.proofs.Common.{ap, option_copied}
use Rattle.tabled_highlight.proofs.Adding.{pushed, missing_more}
use Rattle.tabled_highlight.proofs.around.add.Goals as goal

pub returns-in_ok-push : goal.returns-in_ok-push
returns-in_ok-push g c =
    pushed _ _ c.args.place (option_copied c.args.value) c.in_ok-copy.copy c.in-Some.value.now c.in_ok-push.ensures.items c.in_ok-copy.ensures (ap option_copied c.in-Some.is)

pub returns-in_default : goal.returns-in_default
returns-in_default g c = missing_more _ _ (option_copied c.args.value) (ap option_copied c.in_default.is)

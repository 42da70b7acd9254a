use Rattle.std.proofs.Common.{ap, option_copied}
use Rattle.tabled_highlight.specs.Around.{unless}
use Rattle.tabled_highlight.proofs.Adding.{missing_more}
use Rattle.tabled_highlight.proofs.around.add_unless.Goals as goal

pub returns-then-left_out : goal.returns-then-left_out
returns-then-left_out g c =
    missing_more _ _ (unless c.args.left_out (option_copied c.args.value)) (ap (λ b. unless b (option_copied c.args.value)) c.if-left_out.true)

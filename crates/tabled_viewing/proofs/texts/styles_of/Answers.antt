-- One style more.
use Rattle.tabled_viewing.proofs.Tellings.{told_more}
use Rattle.tabled_viewing.proofs.texts.styles_of.Goals as goal

pub loop-style-preserved : goal.loop-style-preserved
loop-style-preserved c = told_more c.args.styles.now c.loop-style.style-index _ _ _ c.loop-style-test.true c.in_ok-put_style.ensures c.loop-style.invariant

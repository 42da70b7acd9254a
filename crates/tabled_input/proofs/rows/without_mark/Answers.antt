-- The mark was dropped, or there is none.
use Rattle.std.proofs.Common.{sym, ◌∙◌}
use Rattle.tabled_input.proofs.Marks.{mark_absent, mark_dropped}
use Rattle.tabled_input.proofs.rows.without_mark.Goals as goal

pub returns-in-Some : goal.returns-in-Some
returns-in-Some c = let is = c.in-Some.ensures.cases in is.2 ∙ sym (mark_dropped c.args.text.now _ is.1.split)

pub returns-in-None : goal.returns-in-None
returns-in-None c = sym (mark_absent c.args.text.now c.in-None.ensures.cases)

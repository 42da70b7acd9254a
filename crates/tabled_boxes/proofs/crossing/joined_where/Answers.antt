use Rattle.std.proofs.Common.{sym, ap, ◌∙◌}
use Rattle.tabled_boxes.specs.Joined.{joined_by}
use Rattle.tabled_boxes.proofs.Joining.{beside_another, as-arms}
use Rattle.tabled_boxes.proofs.crossing.joined_where.Goals as goal

pub returns-then-any_other : goal.returns-then-any_other
returns-then-any_other c = sym (beside_another c.args.crossing c.args.edges (sym c.any_other.ensures ∙ c.if-any_other.true))

pub returns-else-any_other : goal.returns-else-any_other
returns-else-any_other c =
    c.joined_by.ensures ∙ ap (joined_by c.args.crossing) c.meeting.ensures ∙ sym (as-arms c.args.crossing c.args.edges (sym c.any_other.ensures ∙ c.if-any_other.false))

use Rattle.std.proofs.Common.{sym, ◌∙◌}
use Rattle.tabled_places.proofs.EntityBorders.{added, none_added}
use Rattle.tabled_grid.proofs.layers.writes.WriteGroup.add_to.Goals as goal

pub returns-in_ok-push : goal.returns-in_ok-push
returns-in_ok-push g c = added c.push.new.self.items c.args.list.now.items c.args.self c.in_ok-push.ensures.items

pub returns-else-is_some : goal.returns-else-is_some
returns-else-is_some g c = none_added c.args.list.now.items c.args.self (sym c.is_some.ensures ∙ c.if-is_some.false)

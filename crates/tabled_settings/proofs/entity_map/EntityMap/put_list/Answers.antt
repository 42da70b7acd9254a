-- The map has the events of the list.
use Rattle.std.proofs.Common.{unwrap_or, ap, ◌∙◌}
use Rattle.tabled_settings.specs.Live.{after_all}
use Rattle.tabled_settings.proofs.InARow.{put_in_a_row}
use Rattle.tabled_settings.proofs.entity_map.EntityMap.put_list.Goals as goal

pub invariant_of-self-2 : goal.invariant_of-self-2
invariant_of-self-2 g c = (put_in_a_row (record { default = c.self.inside.default; global = unwrap_or c.self.inside.global c.self.inside.default; since = c.self.inside.since }) c.put_list.new.self c.args.events.items c.self.invariant c.in_ok-put_list.ensures.ok c.requires).0

pub returns-clause-ok : goal.returns-clause-ok
returns-clause-ok g c =
    (put_in_a_row (record { default = c.self.inside.default; global = unwrap_or c.self.inside.global c.self.inside.default; since = c.self.inside.since }) c.put_list.new.self c.args.events.items c.self.invariant c.in_ok-put_list.ensures.ok c.requires).1
    ∙ ap (λ live. after_all live c.args.events.items) c.self.view_is

-- Each of the three maps has the events of its list.
use Rattle.std.proofs.Common.{unwrap_or, ap, ◌∙◌}
use Rattle.tabled_settings.specs.Live.{after_all}
use Rattle.tabled_settings.proofs.InARow.{put_in_a_row}
use Rattle.tabled_settings.proofs.entity_map.EntityMap.put_three.Goals as goal

pub invariant_of-self-2 : goal.invariant_of-self-2
invariant_of-self-2 g c = (put_in_a_row (record { default = c.self.inside.default; global = unwrap_or c.self.inside.global c.self.inside.default; since = c.self.inside.since }) c.put_three_lists.new.self c.args.events.items c.self.invariant c.in_ok-put_three_lists.ensures.ok c.requires.first).0

pub returns-clause-ok : goal.returns-clause-ok
returns-clause-ok g c =
    (put_in_a_row (record { default = c.self.inside.default; global = unwrap_or c.self.inside.global c.self.inside.default; since = c.self.inside.since }) c.put_three_lists.new.self c.args.events.items c.self.invariant c.in_ok-put_three_lists.ensures.ok c.requires.first).1
    ∙ ap (λ live. after_all live c.args.events.items) c.self.view_is

pub invariant_of-second-2 : goal.invariant_of-second-2
invariant_of-second-2 g c = (put_in_a_row (record { default = c.second.inside.default; global = unwrap_or c.second.inside.global c.second.inside.default; since = c.second.inside.since }) c.put_three_lists.new.seconds c.args.second_events.items c.second.invariant c.in_ok-put_three_lists.ensures.seconds_ok c.requires.second).0

pub returns-clause-second_ok : goal.returns-clause-second_ok
returns-clause-second_ok g c =
    (put_in_a_row (record { default = c.second.inside.default; global = unwrap_or c.second.inside.global c.second.inside.default; since = c.second.inside.since }) c.put_three_lists.new.seconds c.args.second_events.items c.second.invariant c.in_ok-put_three_lists.ensures.seconds_ok c.requires.second).1
    ∙ ap (λ live. after_all live c.args.second_events.items) c.second.view_is

pub invariant_of-third-2 : goal.invariant_of-third-2
invariant_of-third-2 g c = (put_in_a_row (record { default = c.third.inside.default; global = unwrap_or c.third.inside.global c.third.inside.default; since = c.third.inside.since }) c.put_three_lists.new.thirds c.args.third_events.items c.third.invariant c.in_ok-put_three_lists.ensures.thirds_ok c.requires.third).0

pub returns-clause-third_ok : goal.returns-clause-third_ok
returns-clause-third_ok g c =
    (put_in_a_row (record { default = c.third.inside.default; global = unwrap_or c.third.inside.global c.third.inside.default; since = c.third.inside.since }) c.put_three_lists.new.thirds c.args.third_events.items c.third.invariant c.in_ok-put_three_lists.ensures.thirds_ok c.requires.third).1
    ∙ ap (λ live. after_all live c.args.third_events.items) c.third.view_is

use Rattle.std.proofs.Common.{◌≡◌}
use Rattle.tabled_settings.specs.Live.{after_all}
use Rattle.tabled_settings.proofs.entity_map.EntityMap.changed.Given as goal

-- the events so far are made
abbrev pub invariant-loop-entity : goal.invariant-loop-entity
invariant-loop-entity g l =
    (goal.iterator-loop-entity g).can_next l.entity-iterator ×
    (goal.iterator-loop-entity g).is_finite l.entity-iterator ×
    (l.copy ≡ after_all l.fn.self l.yielded)

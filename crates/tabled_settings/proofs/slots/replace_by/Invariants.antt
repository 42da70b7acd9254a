use Rattle.std.proofs.Common.{◌≡◌, ◌++◌, ◌+◌, Some, map, take, length, vec_len, vec_capacity}
use Rattle.tabled_settings.specs.Slots.{all_emptied}
use Rattle.tabled_settings.proofs.slots.replace_by.Given as goal

-- the events so far stand at the end, and there is room for the others
abbrev pub invariant-loop-event : goal.invariant-loop-event
invariant-loop-event g l =
    (goal.iterator-loop-event g).can_next l.event-iterator ×
    (goal.iterator-loop-event g).is_finite l.event-iterator ×
    (l.slots.items ≡ l.initial.slots.items ++ map Some l.yielded) ×
    (vec_len l.slots ≡ vec_len l.initial.slots + length l.yielded) ×
    (vec_capacity l.slots ≡ vec_capacity l.initial.slots)

-- the places so far are emptied
abbrev pub invariant-loop-place : goal.invariant-loop-place
invariant-loop-place g l = l.slots.items ≡ all_emptied (take l.place-index l.before) l.initial.slots.items

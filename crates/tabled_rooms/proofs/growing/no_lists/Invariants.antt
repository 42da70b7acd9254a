use Rattle.std.proofs.Common.{◌≡◌, ℕ, ◌<◌, [], map, length, slice_index_or}
use Rattle.tabled_rooms.proofs.growing.no_lists.Given as goal

abbrev pub invariant-loop : goal.invariant-loop
invariant-loop l = record {
  counted : length l.lists.items ≡ l.counter;
  none : (n : ℕ) → n < l.counter → slice_index_or (map (λ list. list.items) l.lists.items) n [] ≡ [];
}

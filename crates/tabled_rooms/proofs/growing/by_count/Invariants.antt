use Rattle.std.proofs.Common.{◌≡◌, ℕ, ◌<◌, [], map, take, length, slice_index_or}
use Rattle.tabled_rooms.specs.Growing.{over_count}
use Rattle.tabled_rooms.proofs.growing.by_count.Given as goal

abbrev pub invariant-loop-ask : goal.invariant-loop-ask
invariant-loop-ask l = record {
  counted : length l.lists.items ≡ l.limit;
  so_far : (n : ℕ) → n < l.limit → slice_index_or (map (λ list. list.items) l.lists.items) n [] ≡ over_count (take l.ask-index l.asks) n;
}

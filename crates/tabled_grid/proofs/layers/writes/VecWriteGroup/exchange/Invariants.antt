use Rattle.std.proofs.Common.{◌≡◌, ◌-◌, ◌≤◌, length, take, drop}
use Rattle.tabled_places.specs.Event.{Changes}
use Rattle.tabled_places.specs.State.{state_at}
use Rattle.tabled_places.specs.Writes.{writes_made, PutsBackAll, Stays}
use Rattle.tabled_grid.proofs.layers.writes.VecWriteGroup.exchange.Given as goal

abbrev pub invariant-loop-made : goal.invariant-loop-made
invariant-loop-made g l = record {
  within : l.made ≤ length l.self.items;
  as_long : length l.self.items ≡ length l.fn.self.items;
  behind : drop l.made l.self.items ≡ drop l.made l.fn.self.items;
  made : Changes (writes_made (take l.made l.fn.self.items)) (state_at l.fn.store) (state_at l.store);
  back : PutsBackAll (take l.made l.self.items) l.fn.store l.store;
  stays : Stays (state_at l.fn.store) (state_at l.store);
}

abbrev pub decreases-loop-made : goal.decreases-loop-made
decreases-loop-made g l = length l.self.items - l.made

-- What the cells of the columns so far ask for.
use Rattle.std.proofs.Common.{◌≡◌, ◌-◌, ◌++◌, map, slice_index_or}
use Rattle.std.specs.List.{flat_map}
use Rattle.tabled_rooms.specs.declared.host.Host.{Host}
use Rattle.tabled_rooms.specs.Holding.{cell_of}
use Rattle.tabled_rooms.specs.Sizes.{below, greatest, is_shown, alone, over_several}
use Rattle.tabled_rooms.proofs.sizes.ask_heights.Given as goal

abbrev pub invariant-loop-col : goal.invariant-loop-col
invariant-loop-col g l = record {
  high : (none : Host) → l.high ≡ greatest (map (λ c. alone (is_shown (cell_of (slice_index_or l.hosts c none)) l.row c) ((slice_index_or l.hosts c none).bottom - l.row) (g.M.CellSizes.height_at l.cells l.row c)) (below l.col));
  noted : (none : Host) → l.asks.items ≡ l.initial.asks.items ++ flat_map (λ c. over_several (is_shown (cell_of (slice_index_or l.hosts c none)) l.row c) l.row ((slice_index_or l.hosts c none).bottom - l.row) (g.M.CellSizes.height_at l.cells l.row c)) (below l.col);
}

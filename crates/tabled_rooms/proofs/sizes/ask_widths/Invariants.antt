-- What the cells of the columns so far ask for.
use Rattle.std.proofs.Common.{◌≡◌, ℕ, ◌<◌, ◌≤◌, ◌++◌, max, slice_index, slice_index_or}
use Rattle.std.specs.List.{flat_map}
use Rattle.tabled_rooms.specs.declared.host.Host.{Host}
use Rattle.tabled_rooms.specs.Holding.{cell_of}
use Rattle.tabled_rooms.specs.Sizes.{below, is_shown, alone, over_several}
use Rattle.tabled_rooms.proofs.sizes.ask_widths.Given as goal

abbrev pub invariant-loop-col : goal.invariant-loop-col
invariant-loop-col g l = record {
  widened : (c : ℕ) (none : Host) → c < l.col → slice_index l.widths c
      ≡ max (slice_index l.initial.widths c) (alone (is_shown (cell_of (slice_index_or l.hosts c none)) l.row c) (slice_index l.counts c) (g.M.CellSizes.width_at l.cells l.row c));
  ahead : (c : ℕ) → l.col ≤ c → slice_index l.widths c ≡ slice_index l.initial.widths c;
  noted : (none : Host) → l.asks.items ≡ l.initial.asks.items ++ flat_map (λ c. over_several (is_shown (cell_of (slice_index_or l.hosts c none)) l.row c) c (slice_index l.counts c) (g.M.CellSizes.width_at l.cells l.row c)) (below l.col);
}

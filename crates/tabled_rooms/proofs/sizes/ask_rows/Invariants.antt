-- What the cells of the rows so far ask for.
use Rattle.std.proofs.Common.{◌≡◌, ℕ, ◌<◌, map, length, slice_index}
use Rattle.std.specs.List.{flat_map}
use Rattle.tabled_rooms.specs.Holding.{AreAbove}
use Rattle.tabled_rooms.specs.Sizes.{below, greatest, alone, is_own, column_count, over_columns, own_height, over_rows}
use Rattle.tabled_rooms.proofs.sizes.ask_rows.Given as goal

abbrev pub invariant-loop-row : goal.invariant-loop-row
invariant-loop-row g l =
    let columns = g.S.CellSpans.columns_at l.spans in
    let rows = g.S.CellSpans.rows_at l.spans in
    record {
      hosts_count : length l.hosts ≡ l.shape.1;
      counts_count : length l.counts ≡ l.shape.1;
      widths_count : length l.widths ≡ l.shape.1;
      above : AreAbove columns rows l.shape l.row l.hosts;
      wide : (c : ℕ) → c < l.shape.1 → slice_index l.widths c ≡ greatest (map (λ r. alone (is_own columns rows l.shape r c) (column_count columns rows l.shape r c) (g.M.CellSizes.width_at l.cells r c)) (below l.row));
      columns_noted : l.over_columns.items ≡ flat_map (over_columns columns rows l.shape (g.M.CellSizes.width_at l.cells)) (below l.row);
      heights_count : length l.heights ≡ l.shape.0;
      high : (r : ℕ) → r < l.row → slice_index l.heights r ≡ own_height columns rows l.shape (g.M.CellSizes.height_at l.cells) r;
      rows_noted : l.over_rows.items ≡ flat_map (over_rows columns rows l.shape (g.M.CellSizes.height_at l.cells)) (below l.row);
    }

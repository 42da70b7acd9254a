-- One row more.
use Rattle.std.proofs.Common.{◌≡◌, ℕ, ◌-◌, ◌<◌, ◌++◌, max, map, length, slice_index, slice_index_or, sym, ap, ◌∙◌, arith}
use Rattle.std.specs.List.{flat_map}
use Rattle.std.proofs.lemmas.List.{length-set}
use Rattle.tabled_rooms.specs.declared.host.Host.{Host}
use Rattle.tabled_rooms.specs.Holding.{cell_of}
use Rattle.tabled_rooms.specs.Sizes.{below, greatest, is_shown, alone, over_several, is_own, column_count, row_count, over_columns, over_rows, own_height}
use Rattle.tabled_rooms.proofs.HostLemmas.{hosts_above}
use Rattle.tabled_rooms.proofs.SizeLemmas.{flat_map_below, flat_map_same, map_same, set_more, greatest_more, shown_kept, count_kept, alone_kept, over_kept}
use Rattle.tabled_rooms.proofs.sizes.ask_rows.Goals as goal

pub loop-row-init : goal.loop-row-init
loop-row-init g c = record {
  hosts_count = c.requires.hosts;
  counts_count = c.requires.counts;
  widths_count = c.requires.widths;
  above = c.requires.above;
  wide = c.requires.no_width;
  columns_noted = c.requires.no_columns;
  heights_count = c.requires.heights;
  high = λ r before. absurd (omega arith);
  rows_noted = c.requires.no_rows;
}

pub loop-row-preserved : goal.loop-row-preserved
loop-row-preserved g c =
    let columns = g.S.CellSpans.columns_at c.args.spans.now in
    let rows = g.S.CellSpans.rows_at c.args.spans.now in
    let shape = c.args.shape in
    let r = c.loop-row.row in
    let none : Host = record { row = 0; col = 0; bottom = 0; right = 0 } in
    let are = c.next_hosts.ensures.hosts in
    let count : length c.next_hosts.new.hosts ≡ shape.1 = omega (arith, c.loop-row.invariant.hosts_count) in
    let wide : ℕ → ℕ = λ k. g.M.CellSizes.width_at c.args.cells.now r k in
    let high : ℕ → ℕ = λ k. g.M.CellSizes.height_at c.args.cells.now r k in
    let counted : (k : ℕ) → k < shape.1 → slice_index c.count_columns.new.counts k ≡ column_count columns rows shape r k =
    λ k within. c.in_ok-count_columns.ensures.counted k none (omega (arith, c.loop-row.invariant.counts_count)) ∙ count_kept columns rows shape r c.next_hosts.new.hosts none are count k in
    record {
      hosts_count = count;
      counts_count = c.in_ok-count_columns.ensures.count ∙ c.loop-row.invariant.counts_count;
      widths_count = omega (arith, c.loop-row.invariant.widths_count);
      above = hosts_above columns rows shape r c.next_hosts.new.hosts are;
      wide = λ k within.
          c.in_ok-ask_widths.ensures.widths k none (omega (arith, c.loop-row.invariant.widths_count))
          ∙ (λ i. max (c.loop-row.invariant.wide k within i) (alone (shown_kept columns rows shape r c.next_hosts.new.hosts none are count k within i) (counted k within i) (wide k)))
          ∙ sym (greatest_more (λ n. alone (is_own columns rows shape n k) (column_count columns rows shape n k) (g.M.CellSizes.width_at c.args.cells.now n k)) r);
      columns_noted =
          c.in_ok-ask_widths.ensures.asks none
          ∙ (λ i. c.loop-row.invariant.columns_noted i ++ (ap (λ n. flat_map (λ k. over_several (is_shown (cell_of (slice_index_or c.next_hosts.new.hosts k none)) r k) k (slice_index c.count_columns.new.counts k) (wide k)) (below n)) count
          ∙ flat_map_same (λ k. over_several (is_shown (cell_of (slice_index_or c.next_hosts.new.hosts k none)) r k) k (slice_index c.count_columns.new.counts k) (wide k))
          (λ k. over_several (is_own columns rows shape r k) k (column_count columns rows shape r k) (wide k)) shape.1
          (λ k within. λ j. over_several (shown_kept columns rows shape r c.next_hosts.new.hosts none are count k within j) k (counted k within j) (wide k))) i)
          ∙ sym (flat_map_below (over_columns columns rows shape (g.M.CellSizes.width_at c.args.cells.now)) r);
      heights_count = length-set c.loop-row.heights r c.in_ok-high.high ∙ c.loop-row.invariant.heights_count;
      high = set_more (own_height columns rows shape (g.M.CellSizes.height_at c.args.cells.now)) c.loop-row.heights r c.in_ok-high.high (omega (arith, c.loop-row.invariant.heights_count))
          (c.in_ok-high.ensures.height none
          ∙ ap (λ n. greatest (map (λ k. alone (is_shown (cell_of (slice_index_or c.next_hosts.new.hosts k none)) r k) ((slice_index_or c.next_hosts.new.hosts k none).bottom - r) (high k)) (below n))) count
          ∙ ap greatest (map_same (λ k. alone (is_shown (cell_of (slice_index_or c.next_hosts.new.hosts k none)) r k) ((slice_index_or c.next_hosts.new.hosts k none).bottom - r) (high k))
          (λ k. alone (is_own columns rows shape r k) (row_count columns rows shape r k) (high k)) shape.1 (λ k within. alone_kept columns rows shape r c.next_hosts.new.hosts none are count k (high k) within)))
          c.loop-row.invariant.high;
      rows_noted =
          c.in_ok-high.ensures.asks none
          ∙ (λ i. c.loop-row.invariant.rows_noted i ++ (ap (λ n. flat_map (λ k. over_several (is_shown (cell_of (slice_index_or c.next_hosts.new.hosts k none)) r k) r ((slice_index_or c.next_hosts.new.hosts k none).bottom - r) (high k)) (below n)) count
          ∙ flat_map_same (λ k. over_several (is_shown (cell_of (slice_index_or c.next_hosts.new.hosts k none)) r k) r ((slice_index_or c.next_hosts.new.hosts k none).bottom - r) (high k))
          (λ k. over_several (is_own columns rows shape r k) r (row_count columns rows shape r k) (high k)) shape.1 (λ k within. over_kept columns rows shape r c.next_hosts.new.hosts none are count k (high k) within)) i)
          ∙ sym (flat_map_below (over_rows columns rows shape (g.M.CellSizes.height_at c.args.cells.now)) r);
    }

pub returns-clause-widths : goal.returns-clause-widths
returns-clause-widths g c = λ k within.
    let columns = g.S.CellSpans.columns_at c.args.spans.now in
    let rows = g.S.CellSpans.rows_at c.args.spans.now in
    let all : c.loop-row.row ≡ c.args.shape.0 = omega arith in
    c.loop-row.invariant.wide k within
    ∙ ap (λ n. greatest (map (λ r. alone (is_own columns rows c.args.shape r k) (column_count columns rows c.args.shape r k) (g.M.CellSizes.width_at c.args.cells.now r k)) (below n))) all

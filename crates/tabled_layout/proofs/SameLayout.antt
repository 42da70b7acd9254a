-- Settings of a table that are equal are one.
use Rattle.std.proofs.Common.{◌≡◌, ◌&&◌, Bool, true, eqb-true}
use Rattle.std.specs.Cmp.{first_so, second_so}
use Rattle.tabled_object.specs.declared.offset.Offset.{Offset}
use Rattle.tabled_object.specs.contracts.offset.OffsetPartialEq.TheImpl.{eq-value as same_offset}
use Rattle.tabled_kept.proofs.ExactMaps.{exact_maps}
use Rattle.tabled_settings.specs.contracts.indent.IndentPartialEq.TheImpl.{eq-value as same_indent}
use Rattle.tabled_settings.specs.contracts.cell_settings.CellSettingsPartialEq.TheImpl.{eq-value as same_cells}
use Rattle.tabled_settings.proofs.SameSettings.{IsExact, same_sides, exact_sides, exact_indent, same_color, exact_color}
use Rattle.tabled_settings.proofs.SameSettings as cell
use Rattle.tabled_layout.proofs.SpanLemmas.{positions_apart}
use Rattle.tabled_layout.specs.declared.table_settings.TableSettings.{TableSettings}
use Rattle.tabled_layout.specs.contracts.margin.MarginPartialEq.TheImpl.{eq-value as same_margin}
use Rattle.tabled_layout.specs.contracts.table_settings.TableSettingsPartialEq.TheImpl.{eq-value as same_table}
use Rattle.tabled_layout.specs.Same.{same_spans}

exact_offset : IsExact same_offset.it
exact_offset (Offset.Start n) (Offset.Start m) h = let e = eqb-true n m h in cc
exact_offset (Offset.End n) (Offset.End m) h = let e = eqb-true n m h in cc
exact_offset a b h = absurd cc

exact_margin : IsExact same_margin.it
exact_margin a b h =
    let sizes : Bool = same_sides same_indent.it a.size b.size in
    let offsets : Bool = same_sides same_offset.it a.offset b.offset in
    let colors : Bool = same_sides same_color a.color b.color in
    let rest = second_so sizes (offsets && colors) h in
    λ i. record {
      size = exact_sides same_indent.it exact_indent a.size b.size (first_so sizes (offsets && colors) h) i;
      offset = exact_sides same_offset.it exact_offset a.offset b.offset (first_so offsets colors rest) i;
      color = exact_sides same_color exact_color a.color b.color (second_so offsets colors rest) i;
    }

exact_spans : IsExact same_spans
exact_spans a b h = exact_maps positions_apart eqb-true a b h

pub exact_settings : (a b : TableSettings) → same_table.it a b ≡ true → a ≡ b
exact_settings a b h =
    let cells : Bool = same_cells.it a.cells b.cells in
    let margins : Bool = same_margin.it a.margin b.margin in
    let columns : Bool = same_spans a.column_spans b.column_spans in
    let rows : Bool = same_spans a.row_spans b.row_spans in
    let after_cells = second_so cells (margins && (columns && rows)) h in
    let after_margin = second_so margins (columns && rows) after_cells in
    λ i. record {
      cells = cell.exact_settings a.cells b.cells (first_so cells (margins && (columns && rows)) h) i;
      margin = exact_margin a.margin b.margin (first_so margins (columns && rows) after_cells) i;
      column_spans = exact_spans a.column_spans b.column_spans (first_so columns rows after_margin) i;
      row_spans = exact_spans a.row_spans b.row_spans (second_so columns rows after_margin) i;
    }

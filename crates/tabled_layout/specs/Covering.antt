-- Which cells spans cover. A span covers the cells that it takes in beside its own.
use Rattle.std.specs.Prelude.{ℕ, Bool, ◌+◌, ◌==◌, ◌&&◌, nat_lt, unwrap_or}
use Rattle.std.specs.List.{list_any}
use Rattle.std.specs.FinMap.{entries, get}
use Rattle.tabled_object.specs.declared.position.Position.{Position}
use Rattle.tabled_layout.specs.Spans.{SpanMap, SpanEvent}

-- whether a cell stands at the right of a position, within the given number of columns; and below it, within the given number of rows
abbrev pub within_columns : SpanEvent → Position → Bool
within_columns (position, count) cell = nat_lt position.col cell.col && nat_lt cell.col (position.col + count)

abbrev pub within_rows : SpanEvent → Position → Bool
within_rows (position, count) cell = nat_lt position.row cell.row && nat_lt cell.row (position.row + count)

-- whether one of the first cells of a row spans
abbrev pub has_span : SpanMap → ℕ → ℕ → Bool
has_span spans row count = list_any (λ span. (row == span.0.row) && nat_lt span.0.col count) (entries spans)

-- a column span covers cells of its own row, a row span those of its own column
abbrev pub covered_by_column_span : SpanMap → Position → Bool
covered_by_column_span spans cell = list_any (λ span. (cell.row == span.0.row) && within_columns span cell) (entries spans)

abbrev pub covered_by_row_span : SpanMap → Position → Bool
covered_by_row_span spans cell = list_any (λ span. (cell.col == span.0.col) && within_rows span cell) (entries spans)

-- whether the cell stands below a position, within the rows that it spans: none where it has no row span
abbrev pub within_its_rows : SpanMap → Position → Position → Bool
within_its_rows rows position cell = within_rows (position, unwrap_or (get rows position) 0) cell

-- the two spans of one position together cover the cells that stand both below it and at its right
abbrev pub covered_by_both_spans : SpanMap → SpanMap → Position → Bool
covered_by_both_spans columns rows cell = list_any (λ span. within_columns span cell && within_its_rows rows span.0 cell) (entries columns)

-- the same of the positions of one row alone
abbrev pub covered_from_row : SpanMap → SpanMap → ℕ → Position → Bool
covered_from_row columns rows row cell = list_any (λ span. (row == span.0.row) && (within_columns span cell && within_its_rows rows span.0 cell)) (entries columns)

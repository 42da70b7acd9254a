-- The spans so far, and those to come.
use Rattle.std.proofs.Common.{◌≡◌, ◌&&◌, ◌||◌}
use Rattle.tabled_object.specs.declared.position.Position.{Position}
use Rattle.tabled_object.specs.Entities.{is_inside}
use Rattle.tabled_kept.specs.Table.{table}
use Rattle.tabled_layout.specs.Spans.{position_cmp}
use Rattle.tabled_layout.specs.Covering.{within_columns, within_its_rows}
use Rattle.tabled_correction.specs.Covered.{has, covered_by}
use Rattle.tabled_correction.proofs.covered.covered_by_both.Given as goal

abbrev pub invariant-loop-position : goal.invariant-loop-position
invariant-loop-position l =
    (cell : Position) → (has l.cells.keys cell || (is_inside l.fn.shape.0 l.fn.shape.1 cell && covered_by (λ span cell. within_columns span cell && within_its_rows (table position_cmp l.rows.entries) span.0 cell) l.position-iterator cell))
    ≡ (is_inside l.fn.shape.0 l.fn.shape.1 cell && covered_by (λ span cell. within_columns span cell && within_its_rows (table position_cmp l.rows.entries) span.0 cell) l.columns.entries cell)

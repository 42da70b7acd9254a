-- The rows so far.
use Rattle.std.proofs.Common.{◌≡◌, [], map, get_or}
use Rattle.tabled_object.specs.Entities.{below}
use Rattle.tabled_cells.specs.TextsBy.{texts_by}
use Rattle.tabled_width.specs.Texts.{texts}
use Rattle.tabled_measure.specs.Changed.{row_changed}
use Rattle.tabled_measure.proofs.changing.changed_rows.Given as goal

abbrev pub invariant-loop-row : goal.invariant-loop-row
invariant-loop-row g l = texts l.found.items ≡ map (λ row. row_changed (g.C.Change.change l.change row) (get_or (texts_by g.T.AsStr.text l.rows) row [])) (below l.row)

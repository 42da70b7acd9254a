-- The rows that were passed are measured.
use Rattle.std.proofs.Common.{◌≡◌, take}
use Rattle.tabled_width.specs.Texts.{texts}
use Rattle.tabled_measure.specs.Sizes.{row_heights}
use Rattle.tabled_measure.proofs.measure.measure_heights.Given as goal

abbrev pub invariant-loop-row : goal.invariant-loop-row
invariant-loop-row l = take l.row l.heights ≡ row_heights (texts (take l.row l.rows))

-- No fault so far: the first of all is the first of the rest.
use Rattle.std.proofs.Common.{◌≡◌, map, string_bytes}
use Rattle.tabled_config.specs.Refusal.{row_faults}
use Rattle.tabled_config.proofs.FaultLemmas.{first_from}
use Rattle.tabled_config.proofs.refusals.first_fault.Given as goal

abbrev pub invariant-loop-row : goal.invariant-loop-row
invariant-loop-row g l =
    let faults = row_faults (g.D.Dimension.width_of l.dims) (g.D.Dimension.height_of l.dims) l.cols in
    first_from faults (λ row. map string_bytes row.items) l.cells 0 ≡ first_from faults (λ row. map string_bytes row.items) l.cells l.row

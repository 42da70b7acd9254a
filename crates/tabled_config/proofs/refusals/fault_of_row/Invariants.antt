-- No fault so far: the first of all is the first of the rest.
use Rattle.std.proofs.Common.{◌≡◌, string_bytes}
use Rattle.tabled_config.specs.Refusal.{cell_faults}
use Rattle.tabled_config.proofs.FaultLemmas.{first_from}
use Rattle.tabled_config.proofs.refusals.fault_of_row.Given as goal

abbrev pub invariant-loop-col : goal.invariant-loop-col
invariant-loop-col g l =
    let faults = cell_faults (g.D.Dimension.width_of l.dims) (g.D.Dimension.height_of l.dims) l.row in
    first_from faults string_bytes l.cells 0 ≡ first_from faults string_bytes l.cells l.col

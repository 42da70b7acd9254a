-- A cell's fault is the row's, where those before it have none.
use Rattle.std.proofs.Common.{ℕ, List, sym, ◌∙◌, string_bytes}
use Rattle.tabled_config.specs.declared.print_error.PrintError.{PrintError}
use Rattle.tabled_config.specs.declared.print_error.PrintError.TheVariants.{ColumnCount}
use Rattle.tabled_config.specs.Refusal.{cell_faults}
use Rattle.tabled_config.proofs.FaultLemmas.{first_from_here, first_from_later, first_after_count}
use Rattle.tabled_config.proofs.refusals.fault_of_row.Goals as goal

pub returns-then-is_some : goal.returns-then-is_some
returns-then-is_some g c =
    let faults : ℕ × List ℕ → List PrintError = cell_faults (g.D.Dimension.width_of c.args.dims.now) (g.D.Dimension.height_of c.args.dims.now) c.args.row in
    first_from_here faults string_bytes c.args.cells.now c.loop-col.col c.index-cells-col.result c.as_str.result.now c.fault_of_cell-fault.result c.loop-col-test.true
    c.index-cells-col.is c.as_str.ensures.value c.fault_of_cell-fault.ensures (sym c.is_some.ensures ∙ c.if-is_some.true)
    ∙ sym c.loop-col.invariant
    ∙ first_after_count faults string_bytes c.args.cells.now c.args.cols (ColumnCount c.args.row) c.if-cells-cols.false

pub loop-col-preserved : goal.loop-col-preserved
loop-col-preserved g c =
    let faults : ℕ × List ℕ → List PrintError = cell_faults (g.D.Dimension.width_of c.args.dims.now) (g.D.Dimension.height_of c.args.dims.now) c.args.row in
    c.loop-col.invariant
    ∙ first_from_later faults string_bytes c.args.cells.now c.loop-col.col c.index-cells-col.result c.as_str.result.now c.fault_of_cell-fault.result c.loop-col-test.true
    c.index-cells-col.is c.as_str.ensures.value c.fault_of_cell-fault.ensures (sym c.is_some.ensures ∙ c.if-is_some.false)

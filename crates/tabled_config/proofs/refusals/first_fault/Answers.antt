-- A row's fault is the table's, where those before it have none.
use Rattle.std.proofs.Common.{ℕ, List, map, ap, sym, ◌∙◌, string_bytes}
use Rattle.tabled_config.specs.declared.print_error.PrintError.{PrintError}
use Rattle.tabled_config.specs.declared.print_error.PrintError.TheVariants.{RowCount}
use Rattle.tabled_config.specs.Refusal.{row_faults}
use Rattle.tabled_config.proofs.FaultLemmas.{first_from_here, first_from_later, first_after_count}
use Rattle.tabled_config.proofs.refusals.first_fault.Goals as goal

pub returns-then-is_some : goal.returns-then-is_some
returns-then-is_some g c =
    let faults : ℕ × List (List ℕ) → List PrintError = row_faults (g.D.Dimension.width_of c.args.dims.now) (g.D.Dimension.height_of c.args.dims.now) c.args.shape.1 in
    first_from_here faults (λ row. map string_bytes row.items) c.args.cells.now c.loop-row.row c.index-cells-row.result (map string_bytes c.deref.result.now) c.fault_of_row-fault.result
    c.loop-row-test.true c.index-cells-row.is (ap (map string_bytes) c.deref.ensures.value) c.fault_of_row-fault.ensures (sym c.is_some.ensures ∙ c.if-is_some.true)
    ∙ sym c.loop-row.invariant
    ∙ first_after_count faults (λ row. map string_bytes row.items) c.args.cells.now c.args.shape.0 RowCount c.if-cells-rows.false

pub loop-row-preserved : goal.loop-row-preserved
loop-row-preserved g c =
    let faults : ℕ × List (List ℕ) → List PrintError = row_faults (g.D.Dimension.width_of c.args.dims.now) (g.D.Dimension.height_of c.args.dims.now) c.args.shape.1 in
    c.loop-row.invariant
    ∙ first_from_later faults (λ row. map string_bytes row.items) c.args.cells.now c.loop-row.row c.index-cells-row.result (map string_bytes c.deref.result.now) c.fault_of_row-fault.result
    c.loop-row-test.true c.index-cells-row.is (ap (map string_bytes) c.deref.ensures.value) c.fault_of_row-fault.ensures (sym c.is_some.ensures ∙ c.if-is_some.false)

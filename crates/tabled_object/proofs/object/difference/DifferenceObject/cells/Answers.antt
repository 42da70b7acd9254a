use Rattle.std.proofs.Common.{◌&&◌, not, ◌∙◌}
use Rattle.tabled_object.specs.declared.entity.Entity.TheVariants.{Global}
use Rattle.tabled_object.specs.Entities.{cells_of}
use Rattle.tabled_object.specs.Listing.{chosen}
use Rattle.tabled_object.proofs.Coverings.{covered_by_set}
use Rattle.tabled_object.proofs.Choosing.{lists_rest}
use Rattle.tabled_object.proofs.object.difference.DifferenceObject.cells.Goals as goal

pub returns-clause-listed : goal.returns-clause-listed
returns-clause-listed g c =
    let rows = g.R.ExactRecords.row_count c.args.records.now in
    let cols = g.R.Records.column_count c.args.records.now in
    let kept = covered_by_set (g.A.Object.listing c.args.self.now.kept rows cols) c.in_ok-cells.ensures.listed c.in_ok-kept.kept c.in_ok-kept.ensures.ran in
    let left_out = covered_by_set (g.B.Object.listing c.args.self.now.left_out rows cols) c.in_ok-cells-2.ensures.listed c.in_ok-left_out.left_out c.in_ok-left_out.ensures.ran in
    let cells = c.iter-cells.ensures ∙ (λ i. cells_of Global (c.count_rows.ensures i) (c.count_columns.ensures i)) in
    lists_rest _ _ tt (c.new.ensures ∙ (λ i. chosen (λ cell. kept cell i && not (left_out cell i)) (cells i)))

use Rattle.std.proofs.Common.{◌&&◌, ◌∙◌}
use Rattle.tabled_object.specs.declared.entity.Entity.TheVariants.{Global}
use Rattle.tabled_object.specs.Entities.{cells_of}
use Rattle.tabled_object.specs.Listing.{chosen}
use Rattle.tabled_object.proofs.Coverings.{covered_by_set}
use Rattle.tabled_object.proofs.Choosing.{lists_rest}
use Rattle.tabled_object.proofs.object.intersection.IntersectionObject.cells.Goals as goal

pub returns-clause-listed : goal.returns-clause-listed
returns-clause-listed g c =
    let rows = g.R.ExactRecords.row_count c.args.records.now in
    let cols = g.R.Records.column_count c.args.records.now in
    let left = covered_by_set (g.A.Object.listing c.args.self.now.left rows cols) c.in_ok-cells.ensures.listed c.in_ok-left.left c.in_ok-left.ensures.ran in
    let right = covered_by_set (g.B.Object.listing c.args.self.now.right rows cols) c.in_ok-cells-2.ensures.listed c.in_ok-right.right c.in_ok-right.ensures.ran in
    let cells = c.iter-cells.ensures ∙ (λ i. cells_of Global (c.count_rows.ensures i) (c.count_columns.ensures i)) in
    lists_rest _ _ tt (c.new.ensures ∙ (λ i. chosen (λ cell. left cell i && right cell i) (cells i)))

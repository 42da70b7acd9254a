use Rattle.std.proofs.Common.{true, ap, map, ◌∙◌}
use Rattle.tabled_object.specs.Entities.{rectangle}
use Rattle.tabled_object.specs.Listing.{alone, chosen}
use Rattle.tabled_object.specs.Ranges.{numbers_in}
use Rattle.tabled_object.proofs.Choosing.{lists_rest, each_cell}
use Rattle.tabled_object.proofs.Stepping.{numbers_in_a_row}
use Rattle.tabled_object.proofs.object.segment.SegmentRangeObject.cells.Goals as goal

pub returns-clause-listed : goal.returns-clause-listed
returns-clause-listed g c =
    let rows = c.args.self.now.rows in
    let cols = c.args.self.now.cols in
    let row = c.ends_within-row in
    let col = c.ends_within-col in
    let in_rows = numbers_in_a_row rows.start rows.end c.count_rows.result row.result.0 row.result.1 row.ensures.in_order row.ensures.within row.ensures.inside ∙ ap (numbers_in rows.start rows.end) c.count_rows.ensures in
    let in_cols = numbers_in_a_row cols.start cols.end c.count_columns.result col.result.0 col.result.1 col.ensures.in_order col.ensures.within col.ensures.inside ∙ ap (numbers_in cols.start cols.end) c.count_columns.ensures in
    lists_rest _ _ tt (c.new.ensures ∙ ap (chosen (λ _. true)) c.rectangle-cells.ensures ∙ each_cell _ ∙ (λ i. map alone (rectangle (in_rows i) (in_cols i))))

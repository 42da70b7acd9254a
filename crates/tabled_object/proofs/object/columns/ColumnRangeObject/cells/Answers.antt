use Rattle.std.proofs.Common.{false, ap, map, ◌∙◌}
use Rattle.tabled_object.specs.Ranges.{line_of, columns_in}
use Rattle.tabled_object.proofs.Stepping.{each_number}
use Rattle.tabled_object.proofs.Choosing.{lists_rest}
use Rattle.tabled_object.proofs.object.columns.ColumnRangeObject.cells.Goals as goal

pub returns-clause-listed : goal.returns-clause-listed
returns-clause-listed g c =
    let range = c.args.self.now in
    let count = c.count_columns-count.result in
    lists_rest _ _ tt (c.new.ensures ∙ ap (map (line_of false)) (each_number range.start range.end count) ∙ ap (columns_in range.start range.end) c.count_columns-count.ensures)

use Rattle.std.proofs.Common.{true, ap, map, ◌∙◌}
use Rattle.tabled_object.specs.Ranges.{line_of, rows_in}
use Rattle.tabled_object.proofs.Stepping.{each_number}
use Rattle.tabled_object.proofs.Choosing.{lists_rest}
use Rattle.tabled_object.proofs.object.rows.RowRangeObject.cells.Goals as goal

pub returns-clause-listed : goal.returns-clause-listed
returns-clause-listed g c =
    let range = c.args.self.now in
    let count = c.count_rows-count.result in
    lists_rest _ _ tt (c.new.ensures ∙ ap (map (line_of true)) (each_number range.start range.end count) ∙ ap (rows_in range.start range.end) c.count_rows-count.ensures)

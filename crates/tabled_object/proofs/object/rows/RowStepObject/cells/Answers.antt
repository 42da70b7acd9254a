use Rattle.std.proofs.Common.{ap, ◌∙◌}
use Rattle.tabled_object.specs.Ranges.{rows_on_step}
use Rattle.tabled_object.proofs.Choosing.{lists_rest}
use Rattle.tabled_object.proofs.object.rows.RowStepObject.cells.Goals as goal

pub returns-clause-listed : goal.returns-clause-listed
returns-clause-listed g c =
    let range = c.args.self.now.range in
    lists_rest _ _ tt (c.new.ensures ∙ ap (rows_on_step range.start range.end c.args.self.now.step) c.count_rows-count.ensures)

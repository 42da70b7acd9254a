use Rattle.std.proofs.Common.{ap, ◌∙◌}
use Rattle.tabled_object.specs.Listing.{chosen, frame, is_outermost}
use Rattle.tabled_object.proofs.Choosing.{lists_rest}
use Rattle.tabled_object.proofs.object.frame.FrameObject.cells.Goals as goal

pub returns-clause-listed : goal.returns-clause-listed
returns-clause-listed g c =
    lists_rest _ _ tt (c.new.ensures ∙ ap (chosen (is_outermost c.count_rows-rows.result c.count_columns-cols.result)) c.iter-cells.ensures
    ∙ (λ i. frame (c.count_rows-rows.ensures i) (c.count_columns-cols.ensures i)))

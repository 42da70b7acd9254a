use Rattle.std.proofs.Common.{◌++◌, ap, ◌∙◌}
use Rattle.tabled_places.specs.Calls.{borders_of}
use Rattle.tabled_places.proofs.EntityBorders.{nothing_written}
use Rattle.tabled_grid.proofs.layers.entity_border.border_writes.Goals as goal

pub returns-clause-ok : goal.returns-clause-ok
returns-clause-ok g c =
    c.in_ok-add_borders.ensures.ok ∙ ap (λ es. es ++ borders_of c.args.shape c.args.border.now c.iter.result) (nothing_written c.new-writes.result.items c.new-writes.ensures.items)
    ∙ ap (borders_of c.args.shape c.args.border.now) c.iter.ensures

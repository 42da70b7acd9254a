use Rattle.std.proofs.Common.{◌∙◌}
use Rattle.tabled_places.proofs.ClassWrites.{nothing_in}
use Rattle.tabled_places.proofs.Changing.{nothing_shown}
use Rattle.tabled_grid.proofs.CountedLemmas.{no_cells_counted, no_lines_counted}
use Rattle.tabled_grid.proofs.layers.Layers+T.new.Goals as goal

pub invariant_of-result : goal.invariant_of-result
invariant_of-result g c = (
  no_cells_counted _ _ c.new-8.ensures c.new-5.ensures,
  no_lines_counted _ _ _ c.new-9.ensures c.new-3.ensures,
  no_lines_counted _ _ _ c.new-10.ensures c.new-4.ensures,
)

pub returns : goal.returns
returns g c = nothing_shown _ c.new.ensures (nothing_in c.new-2.result (c.new-2.ensures ∙ c.empty.ensures)) c.new-3.ensures c.new-4.ensures c.new-5.ensures c.new-6.ensures c.new-7.ensures

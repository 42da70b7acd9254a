use Rattle.std.proofs.Common.{take}
use Rattle.tabled_places.specs.Event as grid
use Rattle.tabled_places.specs.State.{state_at}
use Rattle.tabled_configuration.specs.Configuration.{horizontal_lines_put}
use Rattle.tabled_configuration.proofs.spanned_config.replacing.put_horizontals.Given as goal

abbrev pub invariant-loop-line : goal.invariant-loop-line
invariant-loop-line l = grid.Changes (horizontal_lines_put (take l.line-index l.lines)) (state_at l.fn.store) (state_at l.store)

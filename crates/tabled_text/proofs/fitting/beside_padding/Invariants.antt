-- What is left beside the padding of the rows so far.
use Rattle.std.proofs.Common.{◌≡◌, ◌+◌, ◌-◌, map}
use Rattle.tabled_object.specs.Entities.{below, position}
use Rattle.tabled_settings.specs.Live.{value_at}
use Rattle.tabled_measure.specs.Sizes.{greatest}
use Rattle.tabled_text.proofs.fitting.beside_padding.Given as goal

abbrev pub invariant-loop-row : goal.invariant-loop-row
invariant-loop-row l =
    l.left ≡ l.room - greatest (map (λ row. (value_at l.cfg.settings.cells.padding (position row l.col)).left.size + (value_at l.cfg.settings.cells.padding (position row l.col)).right.size) (below l.row))

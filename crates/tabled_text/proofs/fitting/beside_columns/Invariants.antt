-- What is left beside the columns so far.
use Rattle.std.proofs.Common.{◌≡◌, ◌+◌, ◌-◌, if◌then◌else◌}
use Rattle.std.specs.List.{sum_by}
use Rattle.tabled_object.specs.Entities.{below}
use Rattle.tabled_configuration.specs.Configuration.{all_writes, characters_of}
use Rattle.tabled_places.specs.Drawn.{drawn}
use Rattle.tabled_places.specs.declared.place.LineOf.{LineOf as Line}
use Rattle.tabled_text.specs.Fitted.{padding_across}
use Rattle.tabled_text.proofs.fitting.beside_columns.Given as goal

abbrev pub invariant-loop-col : goal.invariant-loop-col
invariant-loop-col l =
    l.left ≡ l.room - sum_by (λ col. (if drawn (characters_of (all_writes l.cfg)) l.cols (Line.Vertical col) then 1 else 0) + padding_across l.cfg.settings.cells l.rows col) (below l.col)

use Rattle.std.proofs.Common.{◌≡◌, List, map}
use Rattle.tabled_configuration.specs.Options.{MakesInTurn}
use Rattle.tabled_changes.proofs.cell_option.modify.Given as goal

abbrev pub invariant-loop-entity : goal.invariant-loop-entity
invariant-loop-entity g l =
    (goal.iterator-loop-entity g).can_next l.entity-iterator ×
    (goal.iterator-loop-entity g).is_finite l.entity-iterator ×
    l.records ≡ l.fn.records ×
    ((made : List g.row.C-Event.Denot) × MakesInTurn g.C.Configured.changes (map (g.P.CellOption.makes l.fn.option l.fn.records) l.yielded) made l.fn.cfg l.cfg)

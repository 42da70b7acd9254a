-- What is written so far, and what is left to be written.
use Rattle.std.proofs.Common.{◌≡◌, ◌++◌, map, filter}
use Rattle.tabled_object.specs.Entities.{cells_of}
use Rattle.tabled_places.specs.Writes.{writes_made}
use Rattle.tabled_options.specs.LineChar.{direction_of, has_edge, mark_written}
use Rattle.tabled_options.proofs.line_char.LineChar.writes.Given as goal

abbrev pub invariant-loop-pos : goal.invariant-loop-pos
invariant-loop-pos l =
    goal.iterator-loop-pos.can_next l.pos-iterator ×
    goal.iterator-loop-pos.is_finite l.pos-iterator ×
    writes_made l.writes.items ++ map (mark_written l.self) (filter (has_edge (direction_of l.self) l.shape) l.pos-iterator)
    ≡ map (mark_written l.self) (filter (has_edge (direction_of l.self) l.shape) (cells_of l.fn.entity l.shape.0 l.shape.1))

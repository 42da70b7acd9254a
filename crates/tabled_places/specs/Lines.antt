-- Custom lines as events.
use Rattle.std.specs.Prelude.{ℕ, Option, List, ◌∷◌, ◌++◌, option_map, option_to_list}
use Rattle.tabled_places.specs.declared.lines.HorizontalLine.{HorizontalLine}
use Rattle.tabled_places.specs.declared.lines.VerticalLine.{VerticalLine}
use Rattle.tabled_places.specs.declared.place.LineOf.{LineOf}
use Rattle.tabled_places.specs.Site.{first, inner, last, Part, mark, main_edges, meeting, of_line}
use Rattle.tabled_places.specs.Event.{sign, standing, Event, write, erase, line_sites}

-- the write of a field of a line, if it is given
abbrev pub part_write : {T : Type 0} → LineOf → Part → Option T → List (Event T)
part_write line part field = option_to_list (option_map (λ x. write (of_line line part) (sign x)) field)

-- a custom line put at its index: the sites of the line that stood there are cleared, then the mark and the given fields
-- are written
unfoldable pub horizontal_line_set : {T : Type 0} → ℕ → HorizontalLine T → List (Event T)
horizontal_line_set n line =
    erase (line_sites (LineOf.Horizontal n)) ∷ write (of_line (LineOf.Horizontal n) mark) standing
    ∷ part_write (LineOf.Horizontal n) main_edges line.main ++ part_write (LineOf.Horizontal n) (meeting inner) line.intersection
    ++ part_write (LineOf.Horizontal n) (meeting first) line.left ++ part_write (LineOf.Horizontal n) (meeting last) line.right

unfoldable pub vertical_line_set : {T : Type 0} → ℕ → VerticalLine T → List (Event T)
vertical_line_set n line =
    erase (line_sites (LineOf.Vertical n)) ∷ write (of_line (LineOf.Vertical n) mark) standing
    ∷ part_write (LineOf.Vertical n) main_edges line.main ++ part_write (LineOf.Vertical n) (meeting inner) line.intersection
    ++ part_write (LineOf.Vertical n) (meeting first) line.top ++ part_write (LineOf.Vertical n) (meeting last) line.bottom

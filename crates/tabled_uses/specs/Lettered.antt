-- Tables drawn by hand, with texts and characters on their lines. What they print stands in `src/lettered.rt`.
use Rattle.std.specs.Prelude.{ℕ, true, false, Option, Some, None, List, [], ◌∷◌, ◌++◌, codes, slice_index}
use Rattle.tabled_border.specs.Texts.{Texts}
use Rattle.tabled_object.specs.declared.entity.Entity.{Entity}
use Rattle.tabled_settings.specs.declared.alignment.AlignmentHorizontal.{AlignmentHorizontal}
use Rattle.tabled_settings.specs.declared.alignment.AlignmentVertical.{AlignmentVertical}
use Rattle.tabled_object.specs.declared.offset.Offset.{Offset}
use Rattle.tabled_places.specs.declared.place.LineOf.{LineOf}
use Rattle.tabled_places.specs.declared.event.Event.{Event}
use Rattle.tabled_configuration.specs.Configuration.{borders_set, colors_of}
use Rattle.tabled_printing.specs.Picture.{Look, look}
use Rattle.tabled_color.specs.Shade.{static_shade}
use Rattle.tabled_formatting.specs.declared.alignment.Alignment.{Alignment}
use Rattle.tabled_options.specs.LineChar.{EdgeChar, line_char_events}
use Rattle.tabled_options.specs.LineText.{Lettering, text_events}
use Rattle.tabled_options.specs.NamedLine.{row_line, column_line}
use Rattle.tabled_uses.specs.Examples.{Drawing, ascii, top_and_vertical, psql, markdown, vertical_line_set, bar_and_cross}

-- how the table of a drawing looks
abbrev pub look_of : Drawing → Look
look_of drawing = look drawing.events drawing.shape (slice_index drawing.widths) (slice_index drawing.heights)

-- a text at the start of the line that something names, with nothing else set
abbrev pub plain_text : List ℕ → Option LineOf → Lettering (Option LineOf)
plain_text text line = record { text = text; line = line; alignment = None; offset = Offset.Start 0; color = None; limit = None }

-- a drawing with a text on one of its lines, and with a character on edges
abbrev pub lettered : Lettering (Option LineOf) → Drawing → Drawing
lettered text drawing = record drawing { events = drawing.events ++ text_events text (look_of drawing) text.line }

abbrev pub marked : EdgeChar → Entity → Drawing → Drawing
marked mark entity drawing = record drawing { events = drawing.events ++ line_char_events mark drawing.shape entity }

-- the events of colors of a text on a line of a drawing
unfoldable pub colors_on : Lettering (Option LineOf) → Drawing → List (Event Texts)
colors_on text drawing = colors_of (text_events text (look_of drawing) text.line)

-- two rows in a full frame
abbrev pub hello : Drawing
hello = record {
  events = borders_set ascii;
  shape = (2, 1);
  widths = 13 ∷ [];
  heights = 1 ∷ 1 ∷ [];
  cells = (codes " &str        " ∷ []) ∷ (codes " Hello World " ∷ []) ∷ [];
}

-- the same under a line
abbrev pub ruled : Drawing
ruled = record hello { events = markdown }

-- a top line, and a line between columns, with nothing where they cross
abbrev pub open_crossing : Drawing
open_crossing = record {
  events = borders_set top_and_vertical;
  shape = (1, 2);
  widths = 3 ∷ 3 ∷ [];
  heights = 1 ∷ [];
  cells = (codes " a " ∷ codes " b " ∷ []) ∷ [];
}

-- a line between columns that crosses lines which are not drawn
abbrev pub crossed : Drawing
crossed = record {
  events = vertical_line_set 1 bar_and_cross;
  shape = (2, 2);
  widths = 3 ∷ 3 ∷ [];
  heights = 1 ∷ 1 ∷ [];
  cells = (codes " a " ∷ codes " b " ∷ []) ∷ (codes " c " ∷ codes " d " ∷ []) ∷ [];
}

-- three rows, with a line under the first
abbrev pub three_rows : Drawing
three_rows = record {
  events = psql;
  shape = (3, 1);
  widths = 7 ∷ [];
  heights = 1 ∷ 1 ∷ 1 ∷ [];
  cells = (codes " &str  " ∷ []) ∷ (codes " Hello " ∷ []) ∷ (codes " 2022  " ∷ []) ∷ [];
}

abbrev pub table : Option LineOf → Lettering (Option LineOf)
table line = plain_text (codes "TABLE") line

abbrev pub twenty : Lettering (Option LineOf)
twenty = plain_text (codes "ABCDEFGHIJKLMNOPQRST") (row_line 0)

-- texts aligned along horizontal lines and along vertical ones
abbrev pub across : AlignmentHorizontal → Lettering (Option LineOf) → Lettering (Option LineOf)
across alignment text = record text { alignment = Some (Alignment.Horizontal alignment) }

abbrev pub down : AlignmentVertical → Lettering (Option LineOf) → Lettering (Option LineOf)
down alignment text = record text { alignment = Some (Alignment.Vertical alignment) }

abbrev pub from : Offset → Lettering (Option LineOf) → Lettering (Option LineOf)
from offset text = record text { offset = offset }

-- a character at a place of horizontal edges, and of vertical ones: 58 is `:`, 35 `#`
abbrev pub colon : Offset → EdgeChar
colon offset = record { character = 58; offset = offset; horizontal = true }

abbrev pub hash : Offset → EdgeChar
hash offset = record { character = 35; offset = offset; horizontal = false }

unfoldable pub centered : Drawing
centered = lettered (across AlignmentHorizontal.Center (table (row_line 0))) hello

unfoldable pub centered_far : Drawing
centered_far = lettered (from (Offset.Start 18446744073709551615) (across AlignmentHorizontal.Center (table (row_line 0)))) hello

unfoldable pub from_the_third : Drawing
from_the_third = lettered (from (Offset.Start 3) (table (row_line 0))) hello

unfoldable pub limited_to_three : Drawing
limited_to_three = lettered (record (plain_text (codes "+-.table") (row_line 0)) { limit = Some 3 }) hello

unfoldable pub too_long_at_the_right : Drawing
too_long_at_the_right = lettered (across AlignmentHorizontal.Right twenty) hello

unfoldable pub too_long_at_the_left : Drawing
too_long_at_the_left = lettered (across AlignmentHorizontal.Left twenty) hello

unfoldable pub right_and_moved : Drawing
right_and_moved = lettered (from (Offset.End 3) (across AlignmentHorizontal.Right (table (row_line 0)))) hello

unfoldable pub on_the_closing_line : Drawing
on_the_closing_line = lettered (table (row_line 2)) hello

unfoldable pub past_the_closing_line : Drawing
past_the_closing_line = lettered (table (row_line 3)) hello

unfoldable pub over_nothing : Drawing
over_nothing = lettered (plain_text (codes "ABCDEFG") (row_line 0)) open_crossing

unfoldable pub over_a_crossing : Drawing
over_a_crossing = lettered (plain_text (codes "ABCDEFG") (row_line 1)) crossed

unfoldable pub over_it_again : Drawing
over_it_again = lettered (plain_text (codes "xyz") (row_line 1)) over_a_crossing

unfoldable pub on_a_drawn_line : Drawing
on_a_drawn_line = lettered (plain_text (codes "Santa") (row_line 1)) three_rows

unfoldable pub on_a_line_not_drawn : Drawing
on_a_line_not_drawn = lettered (plain_text (codes "Santa") (row_line 0)) three_rows

unfoldable pub both_sides : Drawing
both_sides = lettered (table (column_line 1)) (lettered (table (column_line 0)) hello)

unfoldable pub at_the_bottom : Drawing
at_the_bottom = lettered (down AlignmentVertical.Bottom (plain_text (codes "AB") (column_line 0))) hello

unfoldable pub marks : Drawing
marks =
    marked (hash (Offset.Start 0)) (Entity.Cell 1 1) (marked (hash (Offset.Start 0)) (Entity.Cell 1 0)
    (marked (colon (Offset.End 0)) (Entity.Row 1) (marked (colon (Offset.Start 0)) (Entity.Row 1) ruled)))

unfoldable pub marks_on_closing_lines : Drawing
marks_on_closing_lines =
    marked (hash (Offset.Start 0)) (Entity.Column 1) (marked (colon (Offset.Start 1)) (Entity.Row 2)
    (marked (hash (Offset.Start 0)) (Entity.Column 2) (marked (colon (Offset.Start 1)) (Entity.Row 3) hello)))

-- the colors of a text over a crossing that shows nothing; 98 is `b`, 101 is `e`
unfoldable pub colors_over_nothing : List (Event Texts)
colors_over_nothing = colors_on (record (plain_text (codes "XYZ") (row_line 0)) { offset = Offset.Start 2; color = Some (static_shade (98 ∷ []) (101 ∷ [])) }) open_crossing

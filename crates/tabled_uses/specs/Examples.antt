-- Tables drawn by hand: what was written, and to what cells. The texts that they print stand in `src/examples.rt`.
use Rattle.std.specs.Prelude.{ℕ, List, [], ◌∷◌, ◌++◌, map, Some, None, codes, slice_index, encode_utf8_all}
use Rattle.std.specs.List.{join_with_byte}
use Rattle.tabled_places.specs.declared.borders.Borders.{Borders}
use Rattle.tabled_places.specs.declared.lines.HorizontalLine.{HorizontalLine}
use Rattle.tabled_places.specs.declared.lines.VerticalLine.{VerticalLine}
use Rattle.tabled_places.specs.declared.place.LineOf.{LineOf}
use Rattle.tabled_places.specs.declared.place.Place.{Place}
use Rattle.tabled_object.specs.declared.offset.Offset.{Offset}
use Rattle.tabled_places.specs.declared.site.Direction.TheVariants.{Horizontal, Vertical}
use Rattle.tabled_places.specs.declared.site.Spot.TheVariants.{Edge, Crossing}
use Rattle.tabled_places.specs.declared.site.Site.{Site}
use Rattle.tabled_places.specs.declared.site.Site.TheVariants.{Default as the_default, Cell as at_spot, Offset as at_offset}
use Rattle.tabled_places.specs.declared.event.Written.TheVariants.{Sign as sign}
use Rattle.tabled_places.specs.declared.event.Event.TheVariants.{Write as write, Erase as erase}
use Rattle.tabled_places.specs.declared.event.Region.TheVariants.{One as one_site}
use Rattle.tabled_places.specs.Lines as lines
use Rattle.tabled_configuration.specs.Configuration.{ConfigEvent, of_characters, borders_set, borders_replaced}
use Rattle.tabled_width.specs.Texts.{Table}
use Rattle.tabled_printing.specs.Along.{along}
use Rattle.tabled_printing.specs.Picture.{look, printed}

-- a table drawn by hand: the events, how many rows and columns, their sizes and the cells
pub record Drawing : Type 0 where
  pub events : List ConfigEvent
  pub shape : ℕ × ℕ
  pub widths : List ℕ
  pub heights : List ℕ
  pub cells : Table

-- the text that the definitions give it
unfoldable pub text_of : Drawing → List ℕ
text_of drawing = printed drawing.events drawing.shape (slice_index drawing.widths) (slice_index drawing.heights) drawing.cells

-- the places along a line of it, as the definitions list them
unfoldable pub places_of : Drawing → LineOf → List Place
places_of drawing line =
    let view = look drawing.events drawing.shape (slice_index drawing.widths) (slice_index drawing.heights) in
    along view.horizontal view.vertical view.shape view.widths view.heights line

-- the bytes of lines of text
abbrev pub as_lines : List (List ℕ) → List ℕ
as_lines lines = join_with_byte 10 (map encode_utf8_all lines)

-- the one character of the text, written at the site
abbrev pub put : Site → List ℕ → ConfigEvent
put site text = of_characters (write site (sign (slice_index text 0)))

abbrev pub horizontal_line_set : ℕ → HorizontalLine ℕ → List ConfigEvent
horizontal_line_set n line = map of_characters (lines.horizontal_line_set n line)

abbrev pub vertical_line_set : ℕ → VerticalLine ℕ → List ConfigEvent
vertical_line_set n line = map of_characters (lines.vertical_line_set n line)

-- no field given
abbrev pub nothing : Borders ℕ
nothing = record { top = None; bottom = None; left = None; right = None; top_left = None; top_right = None; bottom_left = None; bottom_right = None; top_intersection = None; bottom_intersection = None; left_intersection = None; right_intersection = None; horizontal = None; vertical = None; intersection = None }

-- 45 is `-`, 124 `|`, 43 `+`, 35 `#`, 61 `=` and 32 a space
abbrev pub ascii : Borders ℕ
ascii = record { top = Some 45; bottom = Some 45; left = Some 124; right = Some 124; top_left = Some 43; top_right = Some 43; bottom_left = Some 43; bottom_right = Some 43; top_intersection = Some 43; bottom_intersection = Some 43; left_intersection = Some 43; right_intersection = Some 43; horizontal = Some 45; vertical = Some 124; intersection = Some 43 }

-- the frame of `#`, over the rest of the record of `ascii`; its inner characters do not show in a table of one cell
abbrev pub hashes : Borders ℕ
hashes = record ascii { top = Some 35; bottom = Some 35; left = Some 35; right = Some 35; top_left = Some 35; top_right = Some 35; bottom_left = Some 35; bottom_right = Some 35 }

abbrev pub top_and_vertical : Borders ℕ
top_and_vertical = record nothing { top = Some 45; vertical = Some 124 }

abbrev pub vertical_bars : List ConfigEvent
vertical_bars = borders_set (record nothing { vertical = Some 124 })

abbrev pub markdown : List ConfigEvent
markdown =
    borders_set (record nothing { left = Some 124; right = Some 124; vertical = Some 124 })
    ++ horizontal_line_set 1 (record { main = Some 45; intersection = Some 124; left = Some 124; right = Some 124 })

abbrev pub psql : List ConfigEvent
psql = vertical_bars ++ horizontal_line_set 1 (record { main = Some 45; intersection = Some 43; left = None; right = None })

abbrev pub re_structured_text : List ConfigEvent
re_structured_text =
    borders_set (record nothing { top = Some 61; top_intersection = Some 32; bottom = Some 61; bottom_intersection = Some 32; vertical = Some 32 })
    ++ horizontal_line_set 1 (record { main = Some 61; intersection = Some 32; left = None; right = None })

-- `═`, `╬`, `╠` and `╣` as a horizontal line, and turned into a vertical one
abbrev pub extended_as_horizontal : HorizontalLine ℕ
extended_as_horizontal = record { main = Some 0x2550; intersection = Some 0x256c; left = Some 0x2560; right = Some 0x2563 }

abbrev pub extended_as_vertical : VerticalLine ℕ
extended_as_vertical = record { main = Some 0x2550; intersection = Some 0x256c; top = Some 0x2560; bottom = Some 0x2563 }

abbrev pub equals : HorizontalLine ℕ
equals = record { main = Some 61; intersection = None; left = None; right = None }

abbrev pub equals_with_left : HorizontalLine ℕ
equals_with_left = record { main = Some 61; intersection = None; left = Some 76; right = None }

abbrev pub dashes : HorizontalLine ℕ
dashes = record { main = Some 45; intersection = None; left = None; right = None }

abbrev pub bar_and_cross : VerticalLine ℕ
bar_and_cross = record { main = Some 124; intersection = Some 43; top = None; bottom = None }

-- a frame around two rows and two columns
unfoldable pub whole_frame : Drawing
whole_frame = record {
  events = borders_set ascii;
  shape = (2, 2);
  widths = 3 ∷ 4 ∷ [];
  heights = 1 ∷ 1 ∷ [];
  cells = (codes " a " ∷ codes " b  " ∷ []) ∷ (codes " 1 " ∷ codes " 22 " ∷ []) ∷ [];
}

-- a table without rows has no text
unfoldable pub no_rows : Drawing
no_rows = record {
  events = borders_set ascii;
  shape = (0, 0);
  widths = [];
  heights = [];
  cells = [];
}

-- a column of two spaces
unfoldable pub one_empty_cell : Drawing
one_empty_cell = record {
  events = borders_set ascii;
  shape = (1, 1);
  widths = 2 ∷ [];
  heights = 1 ∷ [];
  cells = (codes "  " ∷ []) ∷ [];
}

-- cell characters around three of four cells, with no class record
unfoldable pub cells_of_three : Drawing
cells_of_three = record {
  events = put (at_spot (Edge Horizontal 0 1)) (codes "1") ∷ put (at_spot (Edge Horizontal 1 0)) (codes "1") ∷ put (at_spot (Edge Horizontal 2 0)) (codes "2") ∷ put (at_spot (Edge Horizontal 2 1)) (codes "2") ∷ put (at_spot (Edge Vertical 0 1)) (codes "3") ∷ put (at_spot (Edge Vertical 0 2)) (codes "4") ∷ put (at_spot (Edge Vertical 1 0)) (codes "3") ∷ put (at_spot (Edge Vertical 1 2)) (codes "4") ∷ put (at_spot (Crossing 0 1)) (codes "5") ∷ put (at_spot (Crossing 0 2)) (codes "6") ∷ put (at_spot (Crossing 1 0)) (codes "5") ∷ put (at_spot (Crossing 1 1)) (codes "8") ∷ put (at_spot (Crossing 1 2)) (codes "4") ∷ put (at_spot (Crossing 2 0)) (codes "7") ∷ put (at_spot (Crossing 2 1)) (codes "2") ∷ put (at_spot (Crossing 2 2)) (codes "8") ∷ [];
  shape = (2, 2);
  widths = 3 ∷ 3 ∷ [];
  heights = 1 ∷ 1 ∷ [];
  cells = (codes " a " ∷ codes " b " ∷ []) ∷ (codes " c " ∷ codes " d " ∷ []) ∷ [];
}

-- characters down the first and the last vertical line
unfoldable pub down_both_sides : Drawing
down_both_sides = record {
  events = borders_set ascii ++ (put (at_spot (Crossing 0 0)) (codes "T") ∷ put (at_offset Vertical 0 0 (Offset.Start 0)) (codes "A") ∷ put (at_spot (Crossing 1 0)) (codes "B") ∷ put (at_offset Vertical 1 0 (Offset.Start 0)) (codes "L") ∷ put (at_spot (Crossing 2 0)) (codes "E") ∷ put (at_spot (Crossing 0 1)) (codes "T") ∷ put (at_offset Vertical 0 1 (Offset.Start 0)) (codes "A") ∷ put (at_spot (Crossing 1 1)) (codes "B") ∷ put (at_offset Vertical 1 1 (Offset.Start 0)) (codes "L") ∷ put (at_spot (Crossing 2 1)) (codes "E") ∷ []);
  shape = (2, 1);
  widths = 13 ∷ [];
  heights = 1 ∷ 1 ∷ [];
  cells = (codes " &str        " ∷ []) ∷ (codes " Hello World " ∷ []) ∷ [];
}

-- offset characters in the middle of an edge
unfoldable pub offsets_from_start : Drawing
offsets_from_start = record {
  events = borders_set ascii ++ (put (at_offset Horizontal 0 0 (Offset.Start 4)) (codes "T") ∷ put (at_offset Horizontal 0 0 (Offset.Start 5)) (codes "A") ∷ put (at_offset Horizontal 0 0 (Offset.Start 6)) (codes "B") ∷ put (at_offset Horizontal 0 0 (Offset.Start 7)) (codes "L") ∷ put (at_offset Horizontal 0 0 (Offset.Start 8)) (codes "E") ∷ []);
  shape = (2, 1);
  widths = 13 ∷ [];
  heights = 1 ∷ 1 ∷ [];
  cells = (codes " &str        " ∷ []) ∷ (codes " Hello World " ∷ []) ∷ [];
}

-- characters on every place of a line, both crossings too
unfoldable pub whole_line : Drawing
whole_line = record {
  events = borders_set ascii ++ (put (at_spot (Crossing 0 0)) (codes "A") ∷ put (at_offset Horizontal 0 0 (Offset.Start 0)) (codes "B") ∷ put (at_offset Horizontal 0 0 (Offset.Start 1)) (codes "C") ∷ put (at_offset Horizontal 0 0 (Offset.Start 2)) (codes "D") ∷ put (at_offset Horizontal 0 0 (Offset.Start 3)) (codes "E") ∷ put (at_offset Horizontal 0 0 (Offset.Start 4)) (codes "F") ∷ put (at_offset Horizontal 0 0 (Offset.Start 5)) (codes "G") ∷ put (at_offset Horizontal 0 0 (Offset.Start 6)) (codes "H") ∷ put (at_offset Horizontal 0 0 (Offset.Start 7)) (codes "I") ∷ put (at_offset Horizontal 0 0 (Offset.Start 8)) (codes "J") ∷ put (at_offset Horizontal 0 0 (Offset.Start 9)) (codes "K") ∷ put (at_offset Horizontal 0 0 (Offset.Start 10)) (codes "L") ∷ put (at_offset Horizontal 0 0 (Offset.Start 11)) (codes "M") ∷ put (at_offset Horizontal 0 0 (Offset.Start 12)) (codes "N") ∷ put (at_spot (Crossing 0 1)) (codes "O") ∷ []);
  shape = (2, 1);
  widths = 13 ∷ [];
  heights = 1 ∷ 1 ∷ [];
  cells = (codes " &str        " ∷ []) ∷ (codes " Hello World " ∷ []) ∷ [];
}

-- a drawn line shows a space at a crossing that has no character
unfoldable pub empty_crossing : Drawing
empty_crossing = record {
  events = borders_set top_and_vertical ++ (put (at_offset Horizontal 0 0 (Offset.Start 0)) (codes "A") ∷ put (at_offset Horizontal 0 0 (Offset.Start 1)) (codes "B") ∷ put (at_offset Horizontal 0 0 (Offset.Start 2)) (codes "C") ∷ put (at_offset Horizontal 0 1 (Offset.Start 0)) (codes "E") ∷ put (at_offset Horizontal 0 1 (Offset.Start 1)) (codes "F") ∷ put (at_offset Horizontal 0 1 (Offset.Start 2)) (codes "G") ∷ []);
  shape = (1, 2);
  widths = 3 ∷ 3 ∷ [];
  heights = 1 ∷ [];
  cells = (codes " a " ∷ codes " b " ∷ []) ∷ [];
}

-- offsets from both ends of an edge, and on the outer vertical lines
unfoldable pub markdown_offsets : Drawing
markdown_offsets = record {
  events = markdown ++ (put (at_offset Horizontal 1 0 (Offset.Start 0)) (codes ":") ∷ put (at_offset Horizontal 1 0 (Offset.End 0)) (codes ":") ∷ put (at_offset Vertical 1 0 (Offset.Start 0)) (codes "#") ∷ put (at_offset Vertical 1 1 (Offset.Start 0)) (codes "#") ∷ []);
  shape = (2, 1);
  widths = 13 ∷ [];
  heights = 1 ∷ 1 ∷ [];
  cells = (codes " &str        " ∷ []) ∷ (codes " Hello World " ∷ []) ∷ [];
}

-- where both offsets reach a place that from the start shows; one past the edge shows nowhere
unfoldable pub start_before_end : Drawing
start_before_end = record {
  events = borders_set ascii ++ (put (at_offset Horizontal 0 0 (Offset.Start 2)) (codes "s") ∷ put (at_offset Horizontal 0 0 (Offset.End 0)) (codes "e") ∷ put (at_offset Horizontal 0 0 (Offset.End 3)) (codes "n") ∷ []);
  shape = (1, 1);
  widths = 3 ∷ [];
  heights = 1 ∷ [];
  cells = (codes " a " ∷ []) ∷ [];
}

-- the same, written the other way round
unfoldable pub end_then_start : Drawing
end_then_start = record {
  events = borders_set ascii ++ (put (at_offset Horizontal 0 0 (Offset.End 0)) (codes "e") ∷ put (at_offset Horizontal 0 0 (Offset.Start 2)) (codes "s") ∷ []);
  shape = (1, 1);
  widths = 3 ∷ [];
  heights = 1 ∷ [];
  cells = (codes " a " ∷ []) ∷ [];
}

-- a custom vertical line through a table with a custom horizontal line, which is the stronger at their crossing
unfoldable pub vertical_line : Drawing
vertical_line = record {
  events = re_structured_text ++ vertical_line_set 1 extended_as_vertical;
  shape = (4, 2);
  widths = 7 ∷ 5 ∷ [];
  heights = 1 ∷ 1 ∷ 1 ∷ 1 ∷ [];
  cells = (codes " &str  " ∷ codes " i32 " ∷ []) ∷ (codes " Hello " ∷ codes " 0   " ∷ []) ∷ (codes " Hello " ∷ codes " 1   " ∷ []) ∷ (codes " Hello " ∷ codes " 2   " ∷ []) ∷ [];
}

-- a custom horizontal line with ends draws the outer vertical lines
unfoldable pub horizontal_line : Drawing
horizontal_line = record {
  events = re_structured_text ++ horizontal_line_set 1 extended_as_horizontal;
  shape = (4, 2);
  widths = 7 ∷ 5 ∷ [];
  heights = 1 ∷ 1 ∷ 1 ∷ 1 ∷ [];
  cells = (codes " &str  " ∷ codes " i32 " ∷ []) ∷ (codes " Hello " ∷ codes " 0   " ∷ []) ∷ (codes " Hello " ∷ codes " 1   " ∷ []) ∷ (codes " Hello " ∷ codes " 2   " ∷ []) ∷ [];
}

-- a cell's character stays above a class record that was set later
unfoldable pub cell_over_class : Drawing
cell_over_class = record {
  events = borders_set ascii ++ (put (at_spot (Edge Horizontal 0 0)) (codes "x") ∷ []) ++ borders_set hashes;
  shape = (1, 1);
  widths = 3 ∷ [];
  heights = 1 ∷ [];
  cells = (codes " a " ∷ []) ∷ [];
}

-- a class record applied as an option clears the cells first
unfoldable pub all_cleared : Drawing
all_cleared = record {
  events = borders_set ascii ++ (put (at_spot (Edge Horizontal 0 0)) (codes "x") ∷ []) ++ borders_replaced nothing [] [];
  shape = (1, 1);
  widths = 3 ∷ [];
  heights = 1 ∷ [];
  cells = (codes " a " ∷ []) ∷ [];
}

-- a custom line put over another takes nothing from it
unfoldable pub line_replaced : Drawing
line_replaced = record {
  events = borders_set ascii ++ horizontal_line_set 1 equals_with_left ++ horizontal_line_set 1 equals;
  shape = (2, 1);
  widths = 3 ∷ [];
  heights = 1 ∷ 1 ∷ [];
  cells = (codes " a " ∷ []) ∷ (codes " b " ∷ []) ∷ [];
}

-- a border around the first cell draws both outer lines for every row
unfoldable pub boxed_cell : Drawing
boxed_cell = record {
  events = psql ++ (put (at_spot (Edge Horizontal 0 0)) (codes "─") ∷ put (at_spot (Edge Horizontal 1 0)) (codes "─") ∷ put (at_spot (Edge Vertical 0 0)) (codes "│") ∷ put (at_spot (Edge Vertical 0 1)) (codes "│") ∷ put (at_spot (Crossing 0 0)) (codes "┌") ∷ put (at_spot (Crossing 0 1)) (codes "┐") ∷ put (at_spot (Crossing 1 0)) (codes "└") ∷ put (at_spot (Crossing 1 1)) (codes "┘") ∷ []);
  shape = (3, 1);
  widths = 7 ∷ [];
  heights = 1 ∷ 1 ∷ 1 ∷ [];
  cells = (codes " &str  " ∷ []) ∷ (codes " Hello " ∷ []) ∷ (codes " 2022  " ∷ []) ∷ [];
}

-- one character at a crossing draws the two lines through it
unfoldable pub corner_alone : Drawing
corner_alone = record {
  events = put (at_spot (Crossing 1 0)) (codes "#") ∷ [];
  shape = (2, 1);
  widths = 3 ∷ [];
  heights = 1 ∷ 1 ∷ [];
  cells = (codes " a " ∷ []) ∷ (codes " b " ∷ []) ∷ [];
}

-- a character that was erased draws nothing
unfoldable pub corner_erased : Drawing
corner_erased = record {
  events = put (at_spot (Crossing 1 0)) (codes "#") ∷ of_characters (erase (one_site (at_spot (Crossing 1 0)))) ∷ [];
  shape = (2, 1);
  widths = 3 ∷ [];
  heights = 1 ∷ 1 ∷ [];
  cells = (codes " a " ∷ []) ∷ (codes " b " ∷ []) ∷ [];
}

-- a default character draws every line
unfoldable pub default_alone : Drawing
default_alone = record {
  events = put (the_default) (codes "*") ∷ [];
  shape = (1, 1);
  widths = 3 ∷ [];
  heights = 1 ∷ [];
  cells = (codes " a " ∷ []) ∷ [];
}

-- the intersection of a custom vertical line draws no horizontal line
unfoldable pub inner_intersection : Drawing
inner_intersection = record {
  events = vertical_line_set 1 bar_and_cross;
  shape = (2, 2);
  widths = 3 ∷ 3 ∷ [];
  heights = 1 ∷ 1 ∷ [];
  cells = (codes " a " ∷ codes " b " ∷ []) ∷ (codes " c " ∷ codes " d " ∷ []) ∷ [];
}

-- a custom line at the index of the last line draws it
unfoldable pub closing_line : Drawing
closing_line = record {
  events = vertical_bars ++ horizontal_line_set 1 dashes;
  shape = (1, 1);
  widths = 3 ∷ [];
  heights = 1 ∷ [];
  cells = (codes " a " ∷ []) ∷ [];
}

-- two rows, the second two lines high; no line is drawn between them, and the outer vertical lines are not drawn
unfoldable pub two_heights : Drawing
two_heights = record {
  events = borders_set (record nothing { top = Some 45; bottom = Some 45; vertical = Some 124 });
  shape = (2, 2);
  widths = 3 ∷ 3 ∷ [];
  heights = 1 ∷ 2 ∷ [];
  cells = (codes " a " ∷ codes " b " ∷ []) ∷ ((codes " c " ++ 10 ∷ codes " e ") ∷ (codes " d " ++ 10 ∷ codes " f ") ∷ []) ∷ [];
}

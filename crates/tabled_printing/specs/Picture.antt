-- The picture of a table and its text.
use Rattle.std.specs.Prelude.{ℕ, Bool, Option, if◌then◌else◌, List, [], ◌∷◌, ◌++◌, map, unwrap_or, slice_index_or, encode_utf8_all}
use Rattle.std.specs.List.{flat_map, join_with_byte}
use Rattle.tabled_places.specs.declared.place.Place.{Place}
use Rattle.tabled_places.specs.declared.place.LineOf.{LineOf}
use Rattle.tabled_places.specs.Event.{replay}
use Rattle.tabled_places.specs.Value.{value}
use Rattle.tabled_places.specs.Drawn.{drawn}
use Rattle.tabled_border.specs.Texts.{Texts}
use Rattle.tabled_configuration.specs.Configuration.{ConfigEvent, characters_of, colors_of}
use Rattle.tabled_width.specs.Texts.{Table, pieces}
use Rattle.tabled_object.specs.Entities.{below}
use Rattle.tabled_printing.specs.Along.{is_empty, along}

-- how a table looks: its shape and its sizes, which of its lines are drawn, and the character and the color of each place
pub record Look : Type 0 where
  pub shape : ℕ × ℕ
  pub widths : ℕ → ℕ
  pub heights : ℕ → ℕ
  pub horizontal : ℕ → Bool
  pub vertical : ℕ → Bool
  pub shown : Place → Option ℕ
  pub color : Place → Option Texts

-- the length of a place's edge; a crossing has none
abbrev pub edge_size : (ℕ → ℕ) → (ℕ → ℕ) → Place → ℕ
edge_size widths heights (Place.Horizontal r c k) = widths c
edge_size widths heights (Place.Vertical r c k) = heights r
edge_size widths heights (Place.Cross r c) = 0

-- how a table of the given shape, widths and heights looks after a list of events
abbrev pub look : List ConfigEvent → ℕ × ℕ → (ℕ → ℕ) → (ℕ → ℕ) → Look
look es (rows, cols) widths heights = record {
  shape = (rows, cols);
  widths = widths;
  heights = heights;
  horizontal = λ r. drawn (characters_of es) rows (LineOf.Horizontal r);
  vertical = λ c. drawn (characters_of es) cols (LineOf.Vertical c);
  shown = λ place. value (replay (characters_of es)) (rows, cols) (edge_size widths heights place) place;
  color = λ place. value (replay (colors_of es)) (rows, cols) (edge_size widths heights place) place;
}

-- the character that is printed for what a place shows: a space for nothing
abbrev pub character : Option ℕ → ℕ
character shown = unwrap_or shown 32

-- the text of what places show, one after another
abbrev pub text_shown : List (Option ℕ) → List ℕ
text_shown shown = encode_utf8_all (map character shown)

-- what a place shows: its character and its color
abbrev pub Shown : Type 0
Shown = Option ℕ × Option Texts

-- the characters of marks as a text
abbrev pub text_marked : List Shown → List ℕ
text_marked marks = text_shown (map (λ mark. mark.0) marks)

module _ (view : Look) where
  -- what a place shows
  abbrev pub mark_at : Place → Shown
  mark_at place = (view.shown place, view.color place)

  -- the marks of a line: what each place along it shows, in order
  abbrev pub marks_along : LineOf → List Shown
  marks_along line = map mark_at (along view.horizontal view.vertical view.shape view.widths view.heights line)

  -- what vertical line c shows at one line of text of row r, if the line is drawn
  abbrev pub side_shown : ℕ → ℕ → ℕ → List (Option ℕ)
  side_shown r k c = if view.vertical c then view.shown (Place.Vertical r c k) ∷ [] else []

  -- one line of text of a row: the side before each column's piece, and finally the last side
  abbrev pub line_of_pieces : ℕ → ℕ → (ℕ → List ℕ) → List ℕ
  line_of_pieces r k piece = flat_map (λ c. text_shown (side_shown r k c) ++ piece c) (below view.shape.1) ++ text_shown (side_shown r k view.shape.1)

  -- line k of text of row r: each cell gives its piece k, and nothing where it has no piece of that number
  abbrev pub row_line : ℕ → List (List ℕ) → ℕ → List ℕ
  row_line r cells k = line_of_pieces r k (λ c. slice_index_or (pieces (slice_index_or cells c [])) k [])

  -- horizontal line r as a line of text, if it is drawn: the characters of its marks
  abbrev pub line_if_drawn : ℕ → List (List ℕ)
  line_if_drawn r = if view.horizontal r then text_marked (marks_along (LineOf.Horizontal r)) ∷ [] else []

  -- a row as lines of text
  abbrev pub row_lines : ℕ → List (List ℕ) → List (List ℕ)
  row_lines r cells = map (row_line r cells) (below (view.heights r))

  -- the lines of the text, from top to bottom: for each row the line above it and its cells, and finally the last line
  abbrev pub text_lines : Table → List (List ℕ)
  text_lines cells =
      if is_empty view.shape then [] else
      flat_map (λ r. line_if_drawn r ++ row_lines r (slice_index_or cells r [])) (below view.shape.0) ++ line_if_drawn view.shape.0

-- the marks of a line of a table of the given shape, widths and heights, after a list of events
abbrev pub marks : List ConfigEvent → ℕ × ℕ → (ℕ → ℕ) → (ℕ → ℕ) → LineOf → List Shown
marks es shape widths heights line = marks_along (look es shape widths heights) line

-- the text of a table of the given shape, widths, heights and cells, after a list of events
abbrev pub printed : List ConfigEvent → ℕ × ℕ → (ℕ → ℕ) → (ℕ → ℕ) → Table → List ℕ
printed es shape widths heights cells = join_with_byte 10 (text_lines (look es shape widths heights) cells)

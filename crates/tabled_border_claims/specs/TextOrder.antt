-- What each line of a table's text comes of, from top to bottom: so text and vertical lines are read in one order.
use Rattle.std.specs.Prelude.{ℕ, if◌then◌else◌, List, [], ◌∷◌, ◌++◌, map, slice_index_or}
use Rattle.std.specs.List.{flat_map}
use Rattle.tabled_places.specs.declared.place.Place.{Place}
use Rattle.tabled_places.specs.declared.place.LineOf.{LineOf}
use Rattle.tabled_object.specs.Entities.{below}
use Rattle.tabled_printing.specs.Picture.{Look, text_marked, marks_along, row_line}
use Rattle.tabled_width.specs.Texts.{Table}

-- a line of the text: a horizontal line, or one line of the text of a row
pub data TextLine : Type 0 where
  of_line : ℕ → TextLine
  of_row : ℕ → ℕ → TextLine

module _ (view : Look) where
  -- horizontal line r, if it is drawn
  abbrev pub line_there : ℕ → List TextLine
  line_there r = if view.horizontal r then of_line r ∷ [] else []

  -- the lines of the text: for each row the line above it and its own lines, and finally the last line
  abbrev pub text_order : List TextLine
  text_order = flat_map (λ r. line_there r ++ map (of_row r) (below (view.heights r))) (below view.shape.0) ++ line_there view.shape.0

  -- such a line as text, where these are the texts of the cells
  abbrev pub line_text : Table → TextLine → List ℕ
  line_text cells (of_line r) = text_marked (marks_along view (LineOf.Horizontal r))
  line_text cells (of_row r k) = row_line view r (slice_index_or cells r []) k

-- the place of vertical line c in such a line
abbrev pub place_in : ℕ → TextLine → Place
place_in c (of_line r) = Place.Cross r c
place_in c (of_row r k) = Place.Vertical r c k

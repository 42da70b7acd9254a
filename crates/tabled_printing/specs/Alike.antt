-- Where nothing is kept for single places, or for single lines: so lines, and the places along a line, look alike.
use Rattle.std.specs.Prelude.{◌≡◌, ◌<◌, ℕ, Bool, true, None}
use Rattle.std.specs.FinMap.{empty, get}
use Rattle.tabled_places.specs.declared.keys.EdgePlace.{EdgePlace}
use Rattle.tabled_object.specs.declared.offset.Offset.{Offset}
use Rattle.tabled_places.specs.declared.place.LineOf.{LineOf}
use Rattle.tabled_places.specs.declared.site.Direction.{Direction}
use Rattle.tabled_places.specs.declared.site.Direction.TheVariants.{Horizontal, Vertical}
use Rattle.tabled_places.specs.declared.site.Spot.TheVariants.{Edge}
use Rattle.tabled_places.specs.Reading.{direction_of}
use Rattle.tabled_places.specs.State.{State, edge_place, offset_values, HasNoCells, HasNoCellsOn, HasNoOffsetsAt}
use Rattle.tabled_configuration.specs.Configuration.{Configuration}

-- nothing is kept for a single edge or crossing: neither a character nor, where colors are wanted, a color
pub record NoneForCells (cfg : Configuration) (wanted : Bool) : Type 0 where
  pub characters : HasNoCells cfg.characters
  pub colors : wanted ≡ true → HasNoCells cfg.colors

-- nor for one of a line
pub record NoneOnLine (cfg : Configuration) (wanted : Bool) (line : LineOf) : Type 0 where
  pub characters : HasNoCellsOn line cfg.characters
  pub colors : wanted ≡ true → HasNoCellsOn line cfg.colors

-- nor for an edge of a vertical line beside one of the first rows
abbrev pub HasNoEdges : {T : Type 0} → ℕ → ℕ → State T → Type 0
HasNoEdges rows c state = (r : ℕ) → r < rows → get state.cells (Edge Vertical r c) ≡ None

pub record NoneBeside (cfg : Configuration) (wanted : Bool) (rows c : ℕ) : Type 0 where
  pub characters : HasNoEdges rows c cfg.characters
  pub colors : wanted ≡ true → HasNoEdges rows c cfg.colors

-- no custom vertical line stands at an index: neither of characters nor, where colors are wanted, of colors
pub record NoneForColumns (cfg : Configuration) (wanted : Bool) : Type 0 where
  pub characters : cfg.characters.vertical_lines ≡ empty
  pub colors : wanted ≡ true → cfg.colors.vertical_lines ≡ empty

-- the place of an offset of the edge of a line at a number
abbrev pub offset_place : LineOf → ℕ → Offset → EdgePlace
offset_place (LineOf.Horizontal r) n offset = edge_place r n offset
offset_place (LineOf.Vertical c) n offset = edge_place n c offset

-- nothing is kept at an offset of that edge
abbrev pub HasNoOffsetsOf : {T : Type 0} → LineOf → ℕ → State T → Type 0
HasNoOffsetsOf line n state = (offset : Offset) → get (offset_values (direction_of line) state) (offset_place line n offset) ≡ None

pub record NoOffsetsOf (cfg : Configuration) (wanted : Bool) (line : LineOf) (n : ℕ) : Type 0 where
  pub characters : HasNoOffsetsOf line n cfg.characters
  pub colors : wanted ≡ true → HasNoOffsetsOf line n cfg.colors

-- nor of any edge of the line
pub record NoOffsetsAlong (cfg : Configuration) (wanted : Bool) (line : LineOf) : Type 0 where
  pub of : (n : ℕ) → NoOffsetsOf cfg wanted line n

-- nor of the edges of that direction in a row
pub record NoOffsetsAt (cfg : Configuration) (wanted : Bool) (d : Direction) (r : ℕ) : Type 0 where
  pub characters : HasNoOffsetsAt d r cfg.characters
  pub colors : wanted ≡ true → HasNoOffsetsAt d r cfg.colors

-- nothing is kept for a single place of a horizontal line
pub record IsBareLine (cfg : Configuration) (wanted : Bool) (r : ℕ) : Type 0 where
  pub cells : NoneOnLine cfg wanted (LineOf.Horizontal r)
  pub offsets : NoOffsetsAt cfg wanted Horizontal r

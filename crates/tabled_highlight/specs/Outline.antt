-- The outline of a set of cells: what is written at the edges and the crossings around it.
use Rattle.std.specs.Prelude.{ℕ, zero, suc, ◌+◌, Bool, true, false, Option, None, option_map, List, ◌++◌, map, Contains, filter_map, flat_map}
use Rattle.std.specs.Option.{option_or}
use Rattle.tabled_border.specs.declared.border.Border.{Border}
use Rattle.tabled_object.specs.declared.position.Position.{Position}
use Rattle.tabled_object.specs.Entities.{position, below}
use Rattle.tabled_places.specs.declared.place.LineOf.{LineOf}
use Rattle.tabled_places.specs.declared.site.Direction.TheVariants.{Horizontal, Vertical}
use Rattle.tabled_places.specs.declared.site.Site.{Site}
use Rattle.tabled_places.specs.declared.site.Spot.{Spot}
use Rattle.tabled_places.specs.declared.site.Spot.TheVariants.{Edge, Crossing}
use Rattle.tabled_places.specs.declared.site.Site.TheVariants.{Cell as at_spot}
use Rattle.tabled_places.specs.declared.event.Written.TheVariants.{Sign as sign}
use Rattle.tabled_places.specs.declared.event.Event.{Event}
use Rattle.tabled_places.specs.declared.event.Event.TheVariants.{Write as write}
use Rattle.tabled_places.specs.Calls.{line_spots, edge_of}

-- which cells are in the set
abbrev pub CellSet : Type 0
CellSet = Position → Bool

-- whether a test holds of the number before the given one; of 0 it does not, as no number is before it
abbrev pub before : (ℕ → Bool) → ℕ → Bool
before test zero = false
before test (suc n) = test n

module _ (cells : CellSet) (r c : ℕ) where
  -- whether the four cells around the crossing of lines r and c are in the set: the two above it, left and right, and the
  -- two below; a cell that is not there is not
  abbrev pub upper_left : Bool
  upper_left = before (λ row. before (λ col. cells (position row col)) c) r

  abbrev pub upper_right : Bool
  upper_right = before (λ row. cells (position row c)) r

  abbrev pub lower_left : Bool
  lower_left = before (λ col. cells (position r col)) c

  abbrev pub lower_right : Bool
  lower_right = cells (position r c)

module _ {T : Type 0} (border : Border T) where
  -- at an edge of a horizontal line, by whether the cell above it and the cell below it are in the set
  abbrev pub across_value : Bool → Bool → Option T
  across_value false true = border.top
  across_value true false = border.bottom
  across_value false false = None
  across_value true true = None

  -- at an edge of a vertical line, by the cell on its left and the cell on its right
  abbrev pub down_value : Bool → Bool → Option T
  down_value false true = border.left
  down_value true false = border.right
  down_value false false = None
  down_value true true = None

-- what an outline is drawn with: a border, and what stands where two cells touch at a corner alone, if it is given
pub record Outlining (T : Type 0) : Type 0 where
  pub border : Border T
  pub diagonal : Option T

-- at a crossing, by the two cells above it, left and right, and the two below
abbrev pub crossing_value : {T : Type 0} → Outlining T → Bool × Bool → Bool × Bool → Option T
crossing_value given (false, false) (false, true) = given.border.left_top_corner
crossing_value given (false, false) (true, false) = given.border.right_top_corner
crossing_value given (false, true) (false, false) = given.border.left_bottom_corner
crossing_value given (true, false) (false, false) = given.border.right_bottom_corner
crossing_value given (false, false) (true, true) = given.border.top
crossing_value given (true, true) (false, false) = given.border.bottom
crossing_value given (false, true) (false, true) = given.border.left
crossing_value given (true, false) (true, false) = given.border.right
crossing_value given (true, false) (false, true) = option_or given.diagonal (option_or given.border.left_top_corner given.border.right_bottom_corner)
crossing_value given (false, true) (true, false) = option_or given.diagonal (option_or given.border.right_top_corner given.border.left_bottom_corner)
crossing_value given (false, true) (true, true) = given.border.right_bottom_corner
crossing_value given (true, false) (true, true) = given.border.left_bottom_corner
crossing_value given (true, true) (false, true) = given.border.right_top_corner
crossing_value given (true, true) (true, false) = given.border.left_top_corner
crossing_value given (false, false) (false, false) = None
crossing_value given (true, true) (true, true) = None

-- what the outline has at an edge or a crossing
abbrev pub outline_value : {T : Type 0} → CellSet → Outlining T → Spot → Option T
outline_value cells given (Edge Horizontal r c) = across_value given.border (upper_right cells r c) (lower_right cells r c)
outline_value cells given (Edge Vertical r c) = down_value given.border (lower_left cells r c) (lower_right cells r c)
outline_value cells given (Crossing r c) = crossing_value given (upper_left cells r c, upper_right cells r c) (lower_left cells r c, lower_right cells r c)

-- every edge and every crossing of a table of the given numbers of rows and columns, once
abbrev pub every_spot : ℕ × ℕ → List Spot
every_spot (rows, cols) =
    flat_map (λ line. line_spots (LineOf.Horizontal line) cols) (below (rows + 1))
    ++ flat_map (λ line. map (edge_of (LineOf.Vertical line)) (below rows)) (below (cols + 1))

-- the outline of a set of cells in such a table, with what is given
unfoldable pub outline : {T : Type 0} → ℕ × ℕ → CellSet → Outlining T → List (Event T)
outline shape cells given = filter_map (λ spot. option_map (λ value. write (at_spot spot) (sign value)) (outline_value cells given spot)) (every_spot shape)

-- the sites of the edges and the crossings of such a table, at the level of cells
abbrev pub IsSpotOf : ℕ × ℕ → Site → Type 0
IsSpotOf shape site = Contains (map at_spot (every_spot shape)) site

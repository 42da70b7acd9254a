-- Corners that join the lines that meet: what each crossing becomes, by the edges beside it.
use Rattle.std.specs.Prelude.{ℕ, ◌+◌, ◌-◌, ◌==◌, ◌&&◌, ◌||◌, Bool, if◌then◌else◌, Option, None, List, []}
use Rattle.std.specs.List.{flat_map}
use Rattle.std.specs.Option.{option_eq}
use Rattle.tabled_boxes.specs.declared.crossing.Edges.{Edges}
use Rattle.tabled_boxes.specs.Joined.{joined}
use Rattle.tabled_object.specs.declared.position.Position.{Position}
use Rattle.tabled_object.specs.Entities.{position, below, is_inside}
use Rattle.tabled_places.specs.declared.place.LineOf.{LineOf}
use Rattle.tabled_places.specs.declared.place.Place.{Place}
use Rattle.tabled_places.specs.Drawn.{drawn}
use Rattle.tabled_places.specs.State.{writes_of}
use Rattle.tabled_layout.specs.Covering.{covered_by_column_span, covered_by_row_span, covered_by_both_spans}
use Rattle.tabled_configuration.specs.Configuration.{Configuration, ConfigEvent}
use Rattle.tabled_correction.specs.Correction.{Write, Spanned, written_at, where_so, spanned, crossings_written}

module _ (table : Spanned) where
  -- whether a span hides the edge at the left of a cell: a column span covers the cell, or both spans of another cell
  unfoldable pub is_left_hidden : Position → Bool
  is_left_hidden cell =
      is_inside table.shape.0 table.shape.1 cell && (covered_by_column_span table.columns cell || covered_by_both_spans table.columns table.rows cell)

  -- whether a span hides the edge above a cell: a row span covers the cell, or both spans of another cell
  unfoldable pub is_top_hidden : Position → Bool
  is_top_hidden cell =
      is_inside table.shape.0 table.shape.1 cell && (covered_by_row_span table.rows cell || covered_by_both_spans table.columns table.rows cell)

  -- what shows at the left of a cell, and above one, where no span hides it. Behind the last cells these are the lines that close the table
  unfoldable pub left_edge : Position → Option ℕ
  left_edge cell = if is_left_hidden cell then None else table.shown (Place.Vertical cell.row cell.col 0)

  unfoldable pub top_edge : Position → Option ℕ
  top_edge cell = if is_top_hidden cell then None else table.shown (Place.Horizontal cell.row cell.col 0)

  -- the edges that meet at the crossing of horizontal line r and vertical line c
  abbrev pub edge_above : ℕ → ℕ → Option ℕ
  edge_above r c = if r == 0 then None else left_edge (position (r - 1) c)

  abbrev pub edge_below : ℕ → ℕ → Option ℕ
  edge_below r c = left_edge (position r c)

  abbrev pub edge_at_left : ℕ → ℕ → Option ℕ
  edge_at_left r c = if c == 0 then None else top_edge (position r (c - 1))

  abbrev pub edge_at_right : ℕ → ℕ → Option ℕ
  edge_at_right r c = top_edge (position r c)

  abbrev pub edges_at : ℕ → ℕ → Edges
  edges_at r c = record { above = edge_above r c; below = edge_below r c; left = edge_at_left r c; right = edge_at_right r c }

  -- what the crossing becomes
  unfoldable pub became : ℕ → ℕ → Option ℕ
  became r c = joined (table.shown (Place.Cross r c)) (edges_at r c)

  -- it is written where it becomes another one
  unfoldable pub corner_step : ℕ → ℕ → List Write
  corner_step r c = if option_eq (λ a b. a == b) (became r c) (table.shown (Place.Cross r c)) then [] else written_at r c (became r c)

  -- the crossings at which drawn lines meet, in row order
  module _ (horizontal vertical : ℕ → Bool) where
    unfoldable pub line_joined : ℕ → List Write
    line_joined r = where_so (horizontal r) (flat_map (λ c. where_so (vertical c) (corner_step r c)) (below (table.shape.1 + 1)))

    unfoldable pub joined_corners : List Write
    joined_corners = flat_map line_joined (below (table.shape.0 + 1))

-- which lines of a configuration are drawn, in a table of that shape
abbrev pub horizontal_drawn : ℕ × ℕ → Configuration → ℕ → Bool
horizontal_drawn shape cfg r = drawn (writes_of cfg.characters) shape.0 (LineOf.Horizontal r)

abbrev pub vertical_drawn : ℕ × ℕ → Configuration → ℕ → Bool
vertical_drawn shape cfg c = drawn (writes_of cfg.characters) shape.1 (LineOf.Vertical c)

-- the crossings of a configuration, written
abbrev pub corners_of : ℕ × ℕ → Configuration → List Write
corners_of shape cfg = joined_corners (spanned shape cfg) (horizontal_drawn shape cfg) (vertical_drawn shape cfg)

unfoldable pub joined_corner_events : ℕ × ℕ → Configuration → List ConfigEvent
joined_corner_events shape cfg = crossings_written (corners_of shape cfg)

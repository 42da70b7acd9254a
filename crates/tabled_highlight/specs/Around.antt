-- How the outline is written, cell by cell. Private functions alone cite this.
use Rattle.std.specs.Prelude.{ℕ, ◌+◌, ◌-◌, ◌^◌, min, ◌==◌, ◌&&◌, ◌||◌, Bool, true, false, if◌then◌else◌, Option, Some, None, List, [], ◌∷◌, ◌++◌}
use Rattle.std.specs.List.{flat_map, list_any}
use Rattle.tabled_border.specs.declared.border.Border.{Border}
use Rattle.tabled_object.specs.declared.position.Position.{Position}
use Rattle.tabled_places.specs.declared.site.Direction.TheVariants.{Horizontal, Vertical}
use Rattle.tabled_places.specs.declared.site.Spot.{Spot}
use Rattle.tabled_places.specs.declared.site.Spot.TheVariants.{Edge, Crossing}
use Rattle.tabled_places.specs.declared.site.Site.TheVariants.{Cell as at_spot}
use Rattle.tabled_places.specs.declared.event.Written.TheVariants.{Sign as sign}
use Rattle.tabled_places.specs.declared.event.Event.{Event}
use Rattle.tabled_places.specs.declared.event.Event.TheVariants.{Write as write}
use Rattle.tabled_highlight.specs.declared.around.Neighbors.{Neighbors}
use Rattle.tabled_highlight.specs.Outline.{Outlining, CellSet, upper_left, upper_right, lower_left, lower_right, across_value, down_value, crossing_value}

-- the set of the cells of a list
abbrev pub has : List Position → CellSet
has list cell = list_any (λ other. (cell.row == other.row) && (cell.col == other.col)) list

-- which cells around one are in the set, its lines being r and down, and c and right
abbrev pub neighbors : CellSet → (r down c right : ℕ) → Neighbors
neighbors cells r down c right = record {
  above_left = upper_left cells r c;
  above = upper_right cells r c;
  above_right = upper_right cells r right;
  left = lower_left cells r c;
  right = lower_right cells r right;
  below_left = lower_left cells down c;
  below = lower_right cells down c;
  below_right = lower_right cells down right;
}

-- values, where there are some, written at edges and crossings
abbrev pub written_at : {T : Type 0} → Spot × Option T → List (Event T)
written_at (spot, None) = []
written_at (spot, Some value) = write (at_spot spot) (sign value) ∷ []

unfoldable pub all_written : {T : Type 0} → List (Spot × Option T) → List (Event T)
all_written entries = flat_map written_at entries

-- a value that is left out where something holds
abbrev pub unless : {T : Type 0} → Bool → Option T → Option T
unless left_out value = if left_out then None else value

-- what is written at the sides of a cell of the set, whose lines are r and down, and c and right
abbrev pub sides : {T : Type 0} → Border T → Neighbors → (r down c right : ℕ) → List (Spot × Option T)
sides border near r down c right =
    (Edge Horizontal r c, across_value border near.above true)
    ∷ (Edge Horizontal down c, across_value border true near.below)
    ∷ (Edge Vertical r c, down_value border near.left true)
    ∷ (Edge Vertical r right, down_value border true near.right) ∷ []

module _ {T : Type 0} (given : Outlining T) where
  -- and at its corners: each is written for the first cell of the set around it, in row order
  abbrev pub corners : Neighbors → (r down c right : ℕ) → List (Spot × Option T)
  corners near r down c right =
      (Crossing r c, unless (near.above_left || near.above || near.left) (crossing_value given (false, false) (false, true)))
      ∷ (Crossing r right, unless (near.above || near.above_right) (crossing_value given (false, false) (true, near.right)))
      ∷ (Crossing down c, unless near.left (crossing_value given (false, true) (near.below_left, near.below)))
      ∷ (Crossing down right, crossing_value given (true, near.right) (near.below, near.below_right)) ∷ []

  abbrev pub around : CellSet → (r down c right : ℕ) → List (Spot × Option T)
  around cells r down c right = sides given.border (neighbors cells r down c right) r down c right ++ corners (neighbors cells r down c right) r down c right

-- the line after line n, as far as a number can count
abbrev pub line_after : ℕ → ℕ
line_after n = min (n + 1) (2 ^ 64 - 1)

-- what is written around the cells of a list, with what is given, if anything is
abbrev pub written_around_each : {T : Type 0} → Outlining T → CellSet → List Position → List (Event T)
written_around_each given cells list = flat_map (λ pos. all_written (around given cells pos.row (line_after pos.row) pos.col (line_after pos.col))) list

abbrev pub written_around : {T : Type 0} → List Position → Option (Outlining T) → List (Event T)
written_around list None = []
written_around list (Some given) = written_around_each given (has list) list

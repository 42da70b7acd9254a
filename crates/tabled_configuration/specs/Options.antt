-- What options do, entity by entity, and what the border of a cell does to a table.
use Rattle.std.specs.Prelude.{◌≡◌, ◌==◌, ◌||◌, ◌++◌, ℕ, List, [], ◌∷◌, if◌then◌else◌}
use Rattle.tabled_border.specs.declared.border.Border.{Border}
use Rattle.tabled_places.specs.declared.borders.Borders.{Borders}
use Rattle.tabled_object.specs.declared.entity.Entity.{Entity}
use Rattle.tabled_places.specs.CustomLines.{no_borders}
use Rattle.tabled_places.specs.Calls.{entity_border_set, entity_border_erased, frame_erased}
use Rattle.tabled_places.specs.declared.place.Rank.TheVariants.{Inner as inner}
use Rattle.tabled_places.specs.Borders.{has_horizontal, has_vertical}
use Rattle.tabled_places.specs.State.{class_record_set}
use Rattle.tabled_configuration.specs.Configuration.{ConfigEvent, by_characters, borders_set}

-- steps in a row lead from the old configuration to the new one: each is a change by the events that it makes of what stands
-- before it, and the list is the events of all steps, one after the other
unfoldable pub MakesInTurn : {C E : Type 0} → (List E → C → C → Type 0) → List (C → List E) → List E → C → C → Type 0
MakesInTurn changes [] made old new = (new ≡ old) × (made ≡ [])
MakesInTurn {C = C} {E = E} changes (step ∷ steps) made old new =
    (between : C) × (rest : List E) × changes (step old) old between × MakesInTurn changes steps rest between new × (made ≡ step old ++ rest)

-- a border put around each cell of an entity, in a table of the given numbers of rows and columns
unfoldable pub entity_bordered : Border ℕ → ℕ × ℕ → Entity → List ConfigEvent
entity_bordered border shape entity = by_characters (entity_border_set entity shape border)

-- a class record with its frame as a border has it. Where it has something between the columns, the crossings on the
-- outer horizontal lines are as these lines; where it has something between the rows, those on the outer vertical lines
abbrev pub framed : Border ℕ → Borders ℕ → Borders ℕ
framed border class = record {
  top = border.top;
  bottom = border.bottom;
  left = border.left;
  right = border.right;
  top_left = border.left_top_corner;
  top_right = border.right_top_corner;
  bottom_left = border.left_bottom_corner;
  bottom_right = border.right_bottom_corner;
  top_intersection = if has_vertical inner class then border.top else class.top_intersection;
  bottom_intersection = if has_vertical inner class then border.bottom else class.bottom_intersection;
  left_intersection = if has_horizontal inner class then border.left else class.left_intersection;
  right_intersection = if has_horizontal inner class then border.right else class.right_intersection;
  horizontal = class.horizontal;
  vertical = class.vertical;
  intersection = class.intersection;
}

-- a border put around a table, where this was its class record before
unfoldable pub table_bordered : Border ℕ → Borders ℕ → List ConfigEvent
table_bordered border class = borders_set (framed border class)

-- the border of each cell of an entity removed, in a table of the given numbers of rows and columns
unfoldable pub entity_unbordered : ℕ × ℕ → Entity → List ConfigEvent
entity_unbordered shape entity = by_characters (entity_border_erased entity shape)

-- a class record without its frame and the crossings on it
abbrev pub inner_of : Borders ℕ → Borders ℕ
inner_of class = record no_borders {
  horizontal = class.horizontal;
  vertical = class.vertical;
  intersection = class.intersection;
}

-- the frame of a table removed, where this was its class record before: the record keeps what lies inside, and what was
-- written for the cells on the outer lines is cleared; a table without rows or columns has no frame
unfoldable pub table_unbordered : ℕ × ℕ → Borders ℕ → List ConfigEvent
table_unbordered (rows, cols) class =
    if (rows == 0) || (cols == 0) then [] else by_characters (class_record_set (inner_of class) ++ frame_erased (rows, cols))

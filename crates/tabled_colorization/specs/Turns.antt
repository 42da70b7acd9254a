-- Colors given in turn: which color each entity of a table has.
use Rattle.std.specs.Prelude.{ℕ, ◌+◌, ◌*◌, ◌%◌, Option, Some, None, List, [], ◌∷◌, map, length, slice_get}
use Rattle.std.specs.List.{flat_map, enumerate_from}
use Rattle.tabled_border.specs.Texts.{Texts}
use Rattle.tabled_object.specs.declared.entity.Entity.{Entity}
use Rattle.tabled_object.specs.declared.entity.Entity.TheVariants.{Column, Row, Cell}
use Rattle.tabled_object.specs.Entities.{below}
use Rattle.tabled_color.specs.Shade.{Shade, texts_of}
use Rattle.tabled_colorization.specs.declared.pattern.Pattern.{Pattern}
use Rattle.tabled_colorization.specs.declared.pattern.Pattern.TheVariants.{Columns, Rows, ByRow, ByColumn, Chess}

-- a pattern, and the colors that are given in turn
pub record Colorizing : Type 0 where
  pub pattern : Pattern
  pub colors : List Shade

-- what names entities, and the colors that these are given in turn
pub record Exactly (O : Type 0) : Type 0 where
  pub colors : List Shade
  pub target : O

-- an entity with its color, if it has one
abbrev pub with_color : Entity → Option Texts → List (Entity × Texts)
with_color entity None = []
with_color entity (Some color) = (entity, color) ∷ []

-- an entity with a number has the color of that number, where the colors are counted round and round; without colors there is none
abbrev pub in_its_turn : List Texts → Entity × ℕ → List (Entity × Texts)
in_its_turn colors numbered = with_color numbered.0 (slice_get colors (numbered.1 % length colors))

abbrev pub in_turn : List Texts → List (Entity × ℕ) → List (Entity × Texts)
in_turn colors entities = flat_map (in_its_turn colors) entities

-- the entities of a pattern with their numbers, in a table of the given numbers of rows and columns
unfoldable pub numbered : Pattern → ℕ → ℕ → List (Entity × ℕ)
numbered Columns rows cols = map (λ col. (Column col, col)) (below cols)
numbered Rows rows cols = map (λ row. (Row row, row)) (below rows)
numbered ByRow rows cols = flat_map (λ row. map (λ col. (Cell row col, row * cols + col)) (below cols)) (below rows)
numbered ByColumn rows cols = flat_map (λ col. map (λ row. (Cell row col, col * rows + row)) (below rows)) (below cols)
numbered Chess rows cols = flat_map (λ row. map (λ col. (Cell row col, row + col)) (below cols)) (below rows)

-- the colors that a pattern gives
abbrev pub colorization : Colorizing → ℕ → ℕ → List (Entity × Texts)
colorization given rows cols = in_turn (map texts_of given.colors) (numbered given.pattern rows cols)

-- the colors that the entities of a listing are given, counted from 0
abbrev pub listing_in_turn : List Texts → List Entity → List (Entity × Texts)
listing_in_turn colors entities = in_turn colors (map (λ item. (item.1, item.0)) (enumerate_from 0 entities))

abbrev pub exact_colorization : List Shade → List Entity → List (Entity × Texts)
exact_colorization colors entities = listing_in_turn (map texts_of colors) entities

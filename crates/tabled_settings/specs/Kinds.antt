-- Which entities may have an event, as an entity map marks them: it looks for no event of one that is not marked.
use Rattle.std.specs.Prelude.{◌≡◌, ℕ, ◌&&◌, ◌||◌, ◌-◌, ◌^◌, nat_le, min, max, Bool, true, false, List, [], ◌∷◌}
use Rattle.tabled_object.specs.declared.entity.Entity.{Entity}
use Rattle.tabled_object.specs.declared.entity.Entity.TheVariants.{Global, Column, Row, Cell}
use Rattle.tabled_object.specs.declared.position.Position.{Position}
use Rattle.tabled_settings.specs.declared.kinds.EntityKinds.{EntityKinds}
use Rattle.tabled_settings.specs.declared.kinds.NumberRange.{NumberRange}
use Rattle.tabled_settings.specs.Setting.{EntityEvent}
use Rattle.tabled_settings.specs.Live.{has_event}

-- no numbers; whether there are some; whether a number is between the first and the last; and the range that takes a number in
abbrev pub no_numbers : NumberRange
no_numbers = record { first = 2 ^ 64 - 1; last = 0 }

abbrev pub has_some : NumberRange → Bool
has_some numbers = nat_le numbers.first numbers.last

abbrev pub is_between : NumberRange → ℕ → Bool
is_between numbers n = nat_le numbers.first n && nat_le n numbers.last

abbrev pub with_number : NumberRange → ℕ → NumberRange
with_number numbers n = record { first = min numbers.first n; last = max numbers.last n }

-- none of them
abbrev pub no_kinds : EntityKinds
no_kinds = record { rows = no_numbers; columns = no_numbers; cells = no_numbers; last_column = 0 }

-- whether an entity is marked; that of all cells always is
abbrev pub is_marked : EntityKinds → Entity → Bool
is_marked kinds Global = true
is_marked kinds (Column col) = is_between kinds.columns col
is_marked kinds (Row row) = is_between kinds.rows row
is_marked kinds (Cell row col) = is_between kinds.cells row

-- whether one of those that cover a cell is, but for that of all cells
abbrev pub may_cover : EntityKinds → Position → Bool
may_cover kinds cell = is_marked kinds (Column cell.col) || (is_marked kinds (Row cell.row) || is_marked kinds (Cell cell.row cell.col))

-- whether one is that covers some of the cells of a row and not all
abbrev pub may_vary : EntityKinds → ℕ → Bool
may_vary kinds row = has_some kinds.columns || is_between kinds.cells row

-- an entity too
abbrev pub with_kind : EntityKinds → Entity → EntityKinds
with_kind kinds Global = kinds
with_kind kinds (Column col) = record kinds { columns = with_number kinds.columns col }
with_kind kinds (Row row) = record kinds { rows = with_number kinds.rows row }
with_kind kinds (Cell row col) = record kinds { cells = with_number kinds.cells row; last_column = max kinds.last_column col }

-- the entities of these events too
abbrev pub with_kinds : {T : Type 0} → EntityKinds → List (EntityEvent T) → EntityKinds
with_kinds kinds [] = kinds
with_kinds kinds (event ∷ events) = with_kinds (with_kind kinds event.0) events

-- an entity that is not marked has no event
abbrev pub AreMarked : {T : Type 0} → EntityKinds → List (EntityEvent T) → Type 0
AreMarked kinds events = (entity : Entity) → is_marked kinds entity ≡ false → has_event entity events ≡ false

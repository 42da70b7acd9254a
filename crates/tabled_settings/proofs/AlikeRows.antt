-- A row in which no column and no cell is marked is covered alike.
use Rattle.std.proofs.Common.{◌≡◌, ℕ, Bool, true, false, cond, ◌&&◌, ◌==◌, None, List, [], ◌∷◌, unwrap_or, option_and_then, refl, sym, ap, ◌∙◌, arith}
use Rattle.std.specs.List.{last_or}
use Rattle.std.proofs.lemmas.Bool.{eqb-true, or_parts}
use Rattle.std.proofs.lemmas.Bool.Decides.{nat_tests}
use Rattle.tabled_object.specs.declared.entity.Entity.{Entity}
use Rattle.tabled_object.specs.declared.entity.Entity.TheVariants.{Global, Column, Row, Cell}
use Rattle.tabled_object.specs.Entities.{covers, position}
use Rattle.tabled_settings.specs.declared.kinds.EntityKinds.{EntityKinds}
use Rattle.tabled_settings.specs.declared.kinds.NumberRange.{NumberRange}
use Rattle.tabled_settings.specs.AlikeRows.{CoverAlike, IsRowAlike}
use Rattle.tabled_settings.specs.Kinds.{has_some, is_between, is_marked, may_vary, AreMarked}
use Rattle.tabled_settings.specs.Live.{Live, has_event}
use Rattle.tabled_settings.specs.Setting.{EntityEvent, covering, same_entity, write_of}
use Rattle.tabled_settings.proofs.Entities.{entity_itself}

nothing_between : (numbers : NumberRange) (n : ℕ) → has_some numbers ≡ false → is_between numbers n ≡ false
nothing_between numbers n h = grind (arith, nat_tests, h)

-- an entity that is marked covers all of these cells or none
module _ (kinds : EntityKinds) (row c col : ℕ) (alike : may_vary kinds row ≡ false) where
  parts : (has_some kinds.columns ≡ false) × (is_between kinds.cells row ≡ false)
  parts = or_parts (has_some kinds.columns) (is_between kinds.cells row) alike

  covers_alike : (entity : Entity) → ((which : Entity) → is_marked kinds which ≡ false → same_entity which entity ≡ false) → covers entity (position row c) ≡ covers entity (position row col)
  covers_alike Global marked = refl
  covers_alike (Row at) marked = refl
  covers_alike (Column at) marked =
      let never : true ≡ false = sym (entity_itself (Column at)) ∙ marked (Column at) (nothing_between kinds.columns at parts.0) in
      absurd cc
  covers_alike (Cell at other) marked = by (row == at) refl
    where
      by : (here : Bool) → (row == at) ≡ here → ((row == at) && (c == other)) ≡ ((row == at) && (col == other))
      by true same =
          let never : true ≡ false = sym (entity_itself (Cell at other)) ∙ marked (Cell at other) (ap (is_between kinds.cells) (sym (eqb-true row at same)) ∙ parts.1) in
          absurd cc
      by false not_here = ap (λ b. b && (c == other)) not_here ∙ sym (ap (λ b. b && (col == other)) not_here)

  covering_alike : {T : Type 0} (events : List (EntityEvent T)) → AreMarked kinds events → covering events (position row c) ≡ covering events (position row col)
  covering_alike [] marked = refl
  covering_alike (event ∷ events) marked =
      let each : (which : Entity) → is_marked kinds which ≡ false → (same_entity which event.0 ≡ false) × (has_event which events ≡ false) =
      λ which unmarked. or_parts (same_entity which event.0) (has_event which events) (marked which unmarked) in
      let rest = covering_alike events (λ which unmarked. (each which unmarked).1) in
      λ i. cond (covers_alike event.0 (λ which unmarked. (each which unmarked).0) i) (event ∷ rest i) (rest i)

-- so the same events cover each cell of the row, where none is kept too
pub cover_alike : {T : Type 0} (kinds : EntityKinds) (row : ℕ) (events : List (EntityEvent T)) → AreMarked kinds events → may_vary kinds row ≡ false → CoverAlike events row
cover_alike kinds row events marked alike col other = covering_alike kinds row col other alike events marked

pub none_alike : {T : Type 0} (row : ℕ) (events : List (EntityEvent T)) → events ≡ [] → CoverAlike events row
none_alike row events none col other = ap (λ all. covering all (position row col)) none ∙ sym (ap (λ all. covering all (position row other)) none)

-- and each cell has the same value
pub row_alike : {T : Type 0} (live : Live T) (row : ℕ) → CoverAlike live.since row → IsRowAlike live row
row_alike live row alike col other =
    ap (λ found. unwrap_or (option_and_then (λ event. event.1) (last_or None (write_of Global live.global ∷ found))) live.default) (alike col other)

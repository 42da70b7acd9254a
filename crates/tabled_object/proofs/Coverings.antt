-- Which cells a set of entities covers, asked of the set four times.
use Rattle.std.proofs.Common.{◌≡◌, ◌&&◌, ◌||◌, Bool, true, false, List, [], ◌∷◌, Option, refl, sym, ap, map-id, ◌∙◌}
use Rattle.std.specs.List.{list_any}
use Rattle.std.specs.BTreeMap.{is_at}
use Rattle.std.specs.BTreeSet.{BTreeSet, IsFromIterResult}
use Rattle.std.specs.Iterator.{Count, DrainsIf}
use Rattle.std.proofs.lemmas.Iterator.{YieldsList, items_from_drains}
use mathlib.Core.Bool.{or-false}
use Rattle.std.specs.Cmp.{unsigned_tied, tied_then}
use Rattle.tabled_object.specs.declared.entity.Entity.{Entity}
use Rattle.tabled_object.specs.declared.entity.Entity.TheVariants.{Global, Column, Row, Cell}
use Rattle.tabled_object.specs.declared.position.Position.{Position}
use Rattle.tabled_object.specs.contracts.entity.EntityOrd.TheImpl.{cmp-value}
use Rattle.tabled_object.specs.Entities.{covers}
use Rattle.tabled_object.specs.Listing.{covered, Lists}

abbrev pub is_same : Entity → Entity → Bool
is_same a b = is_at (cmp-value.it a) b

-- the four entities that cover a cell
abbrev pub covering : Position → List Entity
covering cell = Global ∷ Column cell.col ∷ Row cell.row ∷ Cell cell.row cell.col ∷ []

covers_same : (entity : Entity) (cell : Position) → covers entity cell ≡ list_any (λ q. is_same q entity) (covering cell)
covers_same Global cell = refl
covers_same (Column col) cell = sym (unsigned_tied cell.col col) ∙ sym (or-false _)
covers_same (Row row) cell = sym (unsigned_tied cell.row row) ∙ sym (or-false _)
covers_same (Cell row col) cell = (λ i. sym (unsigned_tied cell.row row) i && sym (unsigned_tied cell.col col) i) ∙ tied_then _ _ ∙ sym (or-false _)

or_apart : (a b c d : Bool) → ((a || b) || (c || d)) ≡ ((a || c) || (b || d))
or_apart true b true d = refl
or_apart true b false d = refl
or_apart false true true d = refl
or_apart false false true d = refl
or_apart false true false d = refl
or_apart false false false d = refl

any_or : {A : Type 0} (p q : A → Bool) (xs : List A) → list_any (λ x. p x || q x) xs ≡ (list_any p xs || list_any q xs)
any_or p q [] = refl
any_or p q (x ∷ xs) = ap (λ b. (p x || q x) || b) (any_or p q xs) ∙ or_apart (p x) (q x) (list_any p xs) (list_any q xs)

-- whether an entity is in a list
abbrev pub has : List Entity → Entity → Bool
has entities entity = list_any (is_same entity) entities

none : (entities : List Entity) → list_any (λ _. false) entities ≡ false
none [] = refl
none (entity ∷ entities) = none entities

-- asking each of the one list for each of the other, either way round
any_of_any : (asked entities : List Entity) → list_any (λ entity. list_any (λ q. is_same q entity) asked) entities ≡ list_any (has entities) asked
any_of_any [] entities = none entities
any_of_any (q ∷ asked) entities = any_or (is_same q) (λ entity. list_any (λ p. is_same p entity) asked) entities ∙ ap (λ b. has entities q || b) (any_of_any asked entities)

pub covered_by : (entities : List Entity) (cell : Position) → covered entities cell ≡ list_any (has entities) (covering cell)
covered_by entities cell = (λ i. list_any (λ entity. covers_same entity cell i) entities) ∙ any_of_any (covering cell) entities

-- lists with the same entities cover the same cells
same_covered : (entities others : List Entity) → ((entity : Entity) → has entities entity ≡ has others entity) → (cell : Position) → covered entities cell ≡ covered others cell
same_covered entities others h cell = covered_by entities cell ∙ (λ i. list_any (λ entity. h entity i) (covering cell)) ∙ sym (covered_by others cell)

-- a set that was collected covers what the list does that it was collected from
pub covered_by_set : {S : Type 0} {can : S → Type 0} {steps : S → Option Entity → S → Type 0} {left : S → Count} {items : S} (entities : List Entity) → Lists can steps left items entities
    → (set : BTreeSet Entity) → (xs : List Entity) × DrainsIf steps (Unit {0}) items xs × IsFromIterResult (λ a b. cmp-value.it a b) xs set
    → (cell : Position) → covered set.keys cell ≡ covered entities cell
covered_by_set {S} {can} {steps} {left} {items} entities lists set made cell =
    let given : YieldsList steps (λ x. x) items entities = record { runs = lists.in_order } in
    let all = sym (map-id made.0) ∙ items_from_drains made.0 made.1 given in
    same_covered set.keys entities (λ entity. made.2.0 entity ∙ ap (λ xs. has xs entity) all) cell

-- Cells that pass a test, one by one.
use Rattle.std.proofs.Common.{◌≡◌, Bool, true, List, [], ◌∷◌, map, refl, ap, ◌∙◌}
use Rattle.std.specs.Iterator.{YieldsFirst, item_count}
use Rattle.std.proofs.lemmas.Iterator.Consumers.{YieldsList-from_first}
use Rattle.tabled_object.specs.declared.entity.Entity.{Entity}
use Rattle.tabled_object.specs.declared.position.Position.{Position}
use Rattle.tabled_object.specs.Listing.{alone, chosen, Lists}

-- a cell that passes comes first
pub first_chosen : (test : Position → Bool) (cell : Position) (cells rest : List Position) → cells ≡ cell ∷ rest → test cell ≡ true → chosen test cells ≡ alone cell ∷ chosen test rest
first_chosen test cell cells rest e h = ap (chosen test) e ∙ rw h refl

-- all cells are those of them that pass a test which each one passes
pub each_cell : (cells : List Position) → chosen (λ _. true) cells ≡ map alone cells
each_cell [] = refl
each_cell (cell ∷ cells) = ap (λ entities. alone cell ∷ entities) (each_cell cells)

-- an iterator that is seen as the list of what is left lists that
pub lists_rest : {can : List Entity → Type 0} (items entities : List Entity) → can items → items ≡ entities → Lists can (YieldsFirst (λ rest. rest)) (item_count {A = Entity} (λ rest. rest)) items entities
lists_rest {can} items entities h e = record { may_begin = h; ends = tt; in_order = (YieldsList-from_first (λ x. x) (λ rest. rest) entities e).runs }

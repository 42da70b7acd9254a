-- What an iterator gives, shown from what its calls give.
use Rattle.std.proofs.Common.{◌≡◌, List, [], ◌∷◌, ◌++◌, Bool, true, false, cond, T, Option, Some, None, length, take, sym, subst, map-id, ◌∙◌}
use Rattle.std.specs.Iterator.{Count, Yields, AlwaysYields}
use Rattle.std.specs.Iterator.Adapters.{chain_first, chain_second, chain_first_done, chain_second_done, chain_steps, chain_left}
use Rattle.std.specs.declared.iter.Chain.{Chain}
use Rattle.std.proofs.lemmas.Iterator.{YieldsList}
use Rattle.std.proofs.lemmas.Iterator.Consumers.{YieldsList-from_chain, YieldsList-so_far, YieldsList-end}
use Rattle.tabled_object.specs.declared.entity.Entity.{Entity}
use Rattle.tabled_object.specs.Listing.{Lists}

both_true : (p q d e : Bool) → T p → T q → T (cond (cond d true p) (cond e true q) false)
both_true p q true true h k = tt
both_true p q true false h k = k
both_true true q false true h k = tt
both_true true q false false h k = k
both_true false q false e h k = absurd h

-- one iterator after another
pub lists_both : {S T : Type 0} (can : S → Type 0) (others_can : T → Type 0) (steps : S → Option Entity → S → Type 0) (others : T → Option Entity → T → Type 0) (left : S → Count) (others_left : T → Count)
    (items : Chain S T) (entities more : List Entity) → Lists can steps left (chain_first items) entities → Lists others_can others others_left (chain_second items) more
    → chain_first_done items ≡ false → chain_second_done items ≡ false
    → Lists (λ s. (chain_first_done s ≡ false → can (chain_first s)) × (chain_second_done s ≡ false → others_can (chain_second s))) (chain_steps steps others) (chain_left left others_left) items (entities ++ more)
lists_both can others_can steps others left others_left items entities more one other e f = record {
  may_begin = (λ _. one.may_begin, λ _. other.may_begin);
  ends = both_true (left (chain_first items)).bounded (others_left (chain_second items)).bounded (chain_first_done items) (chain_second_done items) one.ends other.ends;
  in_order = (YieldsList-from_chain {v = λ x. x} (let y : YieldsList steps (λ x. x) (chain_first items) entities = record { runs = one.in_order } in y) (let y : YieldsList others (λ x. x) (chain_second items) more = record { runs = other.in_order } in y) e f).runs;
}

module _ {S : Type 0} {can : S → Type 0} {steps : S → Option Entity → S → Type 0} {left : S → Count} {items : S} {entities : List Entity} (lists : Lists can steps left items entities) (given : List Entity) (now : S) where
  given_in_order : YieldsList steps (λ entity. entity) items entities
  given_in_order = record { runs = lists.in_order }

  -- what an iterator has given is a beginning of what it lists
  pub given_so_far : Yields steps items given now → given ≡ take (length given) entities
  given_so_far gave = sym (map-id given) ∙ YieldsList-so_far given_in_order given now gave

  -- an iterator that gives no more has given all that it lists
  pub given_all : Yields steps items given now → (answer : Option Entity) (then : S) → answer ≡ None → steps now answer then → given ≡ entities
  given_all gave answer then none step = sym (map-id given) ∙ (YieldsList-end given_in_order given now gave answer then none step).0

-- an iterator that lists nothing gives nothing
pub nothing_given : {S : Type 0} {can : S → Type 0} {steps : S → Option Entity → S → Type 0} {left : S → Count} {items : S} (entities : List Entity) → Lists can steps left items entities → entities ≡ [] → (given : List Entity) (now : S) → Yields steps items given now → (entity : Entity) (then : S) → steps now (Some entity) then → ⊥
nothing_given {steps = steps} {items = items} entities lists none given now gave entity then step =
    at given gave
  where
    in_order : AlwaysYields steps (λ e. e) items []
    in_order = subst (AlwaysYields steps (λ e. e) items) none lists.in_order

    at : (given : List Entity) → Yields steps items given now → ⊥
    at [] gave = in_order entity then (subst (λ s. steps s (Some entity) then) (sym gave) step)
    at (first ∷ rest) gave = in_order first gave.0 gave.1

-- How many holes slots have, told by how many places are noted.
use Rattle.std.proofs.Common.{◌≡◌, ℕ, suc, ◌*◌, ◌≤◌, Bool, true, ◌||◌, Option, Some, None, List, [], ◌∷◌, length, filter, is_some, IsSome, refl, sym, ap, ◌∙◌, subst, arith}
use Rattle.std.specs.List.{list_any}
use Rattle.std.specs.Map.{keys_of, lookup}
use Rattle.std.specs.BTreeMap.{BTreeMap, IsOrdered, keys}
use Rattle.std.specs.Ordering.{eq_by_cmp}
use Rattle.std.specs.Cmp.{eq_by_cmp_equiv}
use Rattle.std.proofs.lemmas.Map.Keys.{IsDistinct-from_sorted}
use Rattle.std.proofs.lemmas.Map.Entries.{length-keys_of}
use Rattle.std.proofs.lemmas.Map.Made.{is_some-lookup}
use Rattle.std.proofs.lemmas.Map.Steps.{length-le_from_keys}
use Rattle.tabled_object.specs.declared.entity.Entity.{Entity}
use Rattle.tabled_object.specs.contracts.entity.EntityOrd.TheImpl.Laws.{total-law}
use Rattle.tabled_settings.specs.Setting.{same_entity}
use Rattle.tabled_settings.specs.SameLaws.{is_same_entity}
use Rattle.tabled_settings.specs.Slots.{standing, entity_cmp, HasPlaces, HasFewHoles}
use Rattle.tabled_settings.proofs.Placing.{is_placed}

module _ {V : Type 0} (places : BTreeMap Entity ℕ) (slots : List (Option (Entity × V))) (has : HasPlaces places slots) where
  any_key : (test : Entity → Bool) (events : List (Entity × V)) → list_any test (keys_of events) ≡ list_any (λ event. test event.0) events
  any_key test [] = refl
  any_key test (event ∷ events) = ap (λ b. test event.0 || b) (any_key test events)

  -- a key of the places has an event
  stands : (entity : Entity) → list_any (eq_by_cmp entity_cmp entity) (keys places) ≡ true → IsSome (lookup (eq_by_cmp entity_cmp entity) (standing slots))
  stands entity among =
      is_some-lookup (eq_by_cmp entity_cmp entity) (standing slots)
      ∙ any_key (eq_by_cmp entity_cmp entity) (standing slots)
      ∙ (λ i. list_any (λ event. is_same_entity entity event.0 i) (standing slots))
      ∙ sym (is_placed (same_entity entity) slots)
      ∙ sym (ap is_some (has entity))
      ∙ is_some-lookup (eq_by_cmp entity_cmp entity) places.entries
      ∙ among

  -- so there are no more places than events
  places_within : IsOrdered entity_cmp places → length places.entries ≤ length (standing slots)
  places_within ordered =
      subst (λ n. n ≤ length (standing slots)) (length-keys_of places.entries)
      (length-le_from_keys (eq_by_cmp_equiv total-law) (keys places) (standing slots) (IsDistinct-from_sorted entity_cmp (keys places) ordered) stands)

  pub few_by_places : (slot_count place_count : ℕ) → slot_count ≡ length slots → place_count ≡ length places.entries → IsOrdered entity_cmp places → slot_count ≤ 2 * place_count → HasFewHoles slots
  few_by_places slot_count place_count all noted ordered half = let within = places_within ordered in omega arith

-- without holes there are few
all_stand : {A : Type 0} (slots : List (Option A)) → length (filter is_some slots) ≡ length (standing slots)
all_stand [] = refl
all_stand (None ∷ slots) = all_stand slots
all_stand (Some event ∷ slots) = ap suc (all_stand slots)

pub few_kept : {A : Type 0} (slots kept : List (Option A)) → kept ≡ filter is_some slots → standing kept ≡ standing slots → HasFewHoles kept
few_kept slots kept is same =
    let none : length kept ≡ length (standing kept) = ap length is ∙ all_stand slots ∙ sym (ap length same) in
    omega arith

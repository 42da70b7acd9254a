-- The equality of entity maps has the laws of the equality of values.
use Rattle.std.specs.Prelude.{◌≡◌, ◌&&◌, Bool, true, Option, Some, None, refl}
use Rattle.std.specs.Option.{option_eq}
use Rattle.std.specs.Ordering.{nat_cmp, eq_by_cmp}
use Rattle.std.specs.Cmp.{IsPartialEquivalence, IsEquivalence, on_per, on_equiv, and_per, and_equiv, partial_equiv_from_equiv, eq_by_cmp_equiv, unsigned_tied, tied_then}
use Rattle.std.specs.Cmp.Lexicographic.{lists_per, lists_equiv, options_equiv}
use Rattle.std.proofs.Common.{sym, ◌∙◌, subst}
use Rattle.tabled_object.specs.declared.entity.Entity.{Entity}
use Rattle.tabled_object.specs.declared.entity.Entity.TheVariants.{Global, Column, Row, Cell}
use Rattle.tabled_object.specs.contracts.entity.EntityOrd.TheImpl.Laws.{total-law}
use Rattle.tabled_settings.specs.Setting.{same_entity}
use Rattle.tabled_settings.specs.Slots.{entity_cmp}
use Rattle.tabled_settings.specs.Same.{same_event, same_live}

-- entities that compare alike are the same
pub is_same_entity : (a b : Entity) → eq_by_cmp entity_cmp a b ≡ same_entity a b
is_same_entity Global Global = refl
is_same_entity (Column a) (Column b) = unsigned_tied a b
is_same_entity (Row a) (Row b) = unsigned_tied a b
is_same_entity (Cell a b) (Cell c d) = sym (tied_then (nat_cmp a c) (nat_cmp b d)) ∙ (λ i. unsigned_tied a c i && unsigned_tied b d i)
is_same_entity a b = refl

pub entity_equiv : IsEquivalence same_entity
entity_equiv = subst (λ (E : Entity → Entity → Bool). IsEquivalence E) (λ i a b. is_same_entity a b i) (eq_by_cmp_equiv total-law)

module _ {T : Type 0} {E : T → T → Bool} (p : IsPartialEquivalence E) where
  option_symm : (a b : Option T) → option_eq E a b ≡ option_eq E b a
  option_symm None None = refl
  option_symm (Some x) (Some y) = p.symm x y
  option_symm a b = refl

  option_trans : (a b c : Option T) → option_eq E a b ≡ true → option_eq E b c ≡ true → option_eq E a c ≡ true
  option_trans None None c h k = k
  option_trans (Some x) (Some y) None h k = k
  option_trans (Some x) (Some y) (Some z) h k = p.trans x y z h k
  option_trans a b c h k = absurd cc

  option_per : IsPartialEquivalence (option_eq E)
  option_per = record { symm = option_symm; trans = option_trans }

  event_per : IsPartialEquivalence (same_event E)
  event_per = and_per (on_per (λ event. event.0) (partial_equiv_from_equiv entity_equiv)) (on_per (λ event. event.1) option_per)

  pub live_per : IsPartialEquivalence (same_live E)
  live_per = and_per (on_per (λ live. live.default) p) (and_per (on_per (λ live. live.global) p) (on_per (λ live. live.since) (lists_per event_per)))

pub live_equiv : {T : Type 0} {E : T → T → Bool} → IsEquivalence E → IsEquivalence (same_live E)
live_equiv e =
    let event = and_equiv (on_equiv (λ event. event.0) entity_equiv) (on_equiv (λ event. event.1) (options_equiv e)) in
    and_equiv (on_equiv (λ live. live.default) e) (and_equiv (on_equiv (λ live. live.global) e) (on_equiv (λ live. live.since) (lists_equiv event)))

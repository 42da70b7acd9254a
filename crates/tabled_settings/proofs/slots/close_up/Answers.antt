use Rattle.std.proofs.Common.{◌≡◌, ap, sym, ◌∙◌, subst, is_some, filter, rules}
use Rattle.std.proofs.lemmas.Fn.{filter_same}
use Rattle.tabled_settings.specs.Setting.{same_entity}
use Rattle.tabled_settings.specs.Slots.{standing, place, HasPlaces}
use Rattle.tabled_settings.proofs.Placing.{standing-kept, placed-kept}
use Rattle.tabled_settings.proofs.Holes.{few_by_places, few_kept}
use Rattle.tabled_settings.proofs.InOrder.{placed_by_map, told_other}
use Rattle.tabled_settings.proofs.slots.close_up.Goals as goal

pub number-requires : goal.number-requires
number-requires g c = λ entity.
    let kept : c.retain.new.self.items ≡ filter is_some c.args.slots.now.items = filter_same _ is_some _ (λ x b f' k. search rules) _ _ c.retain.ensures.filtered in
    ap is_some (c.requires.placed.noted (told_other c.args.places.now c.is_empty.result c.is_empty.ensures c.if-is_empty.false) entity)
    ∙ sym (ap (λ slots. is_some (place (same_entity entity) slots)) (c.deref.ensures.value ∙ kept) ∙ placed-kept (same_entity entity) c.args.slots.now.items)

pub returns-then-len-clause-events : goal.returns-then-len-clause-events
returns-then-len-clause-events g c =
    let kept : c.retain.new.self.items ≡ filter is_some c.args.slots.now.items = filter_same _ is_some _ (λ x b f' k. search rules) _ _ c.retain.ensures.filtered in
    ap standing kept ∙ standing-kept c.args.slots.now.items

pub returns-then-len-clause-placed : goal.returns-then-len-clause-placed
returns-then-len-clause-placed g c =
    let kept : c.retain.new.self.items ≡ filter is_some c.args.slots.now.items = filter_same _ is_some _ (λ x b f' k. search rules) _ _ c.retain.ensures.filtered in
    placed_by_map c.number.new.places c.retain.new.self.items (few_kept c.args.slots.now.items c.retain.new.self.items kept (ap standing kept ∙ standing-kept c.args.slots.now.items))
    (subst (HasPlaces c.number.new.places) c.deref.ensures.value c.number.ensures)

pub returns-then-len-clause-few_holes : goal.returns-then-len-clause-few_holes
returns-then-len-clause-few_holes g c =
    let kept : c.retain.new.self.items ≡ filter is_some c.args.slots.now.items = filter_same _ is_some _ (λ x b f' k. search rules) _ _ c.retain.ensures.filtered in
    few_kept c.args.slots.now.items c.retain.new.self.items kept (ap standing kept ∙ standing-kept c.args.slots.now.items)

pub returns-else-len-clause-few_holes : goal.returns-else-len-clause-few_holes
returns-else-len-clause-few_holes g c =
    few_by_places c.args.places.now c.args.slots.now.items (c.requires.placed.noted (told_other c.args.places.now c.is_empty.result c.is_empty.ensures c.if-is_empty.false)) c.len.result c.len-2.result
    (c.len.ensures ∙ c.args.slots.now.ok.0) c.len-2.ensures.len c.len-2.ensures.ordered c.if-len.false

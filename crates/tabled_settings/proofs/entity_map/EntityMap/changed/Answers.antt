use Rattle.std.proofs.Common.{[], ◌∷◌, sym, ap, ◌∙◌, map-id}
use Rattle.std.proofs.lemmas.Iterator.Adapters.{YieldsList-from_vec}
use Rattle.std.proofs.lemmas.Iterator.Consumers.{YieldsList-end}
use Rattle.tabled_settings.specs.Live.{after, after_all}
use Rattle.tabled_settings.proofs.Leaving.{after_all-append}
use Rattle.tabled_settings.proofs.entity_map.EntityMap.changed.Goals as goal

pub loop-entity-preserved : goal.loop-entity-preserved
loop-entity-preserved g c = (
  tt,
  tt,
  c.in_ok-put.ensures.ok ∙ ap (λ map. after map (c.in-Some.entity, c.in-Some.value)) c.loop-entity.invariant.2 ∙ sym (after_all-append c.args.self.now c.loop-entity.yielded ((c.in-Some.entity, c.in-Some.value) ∷ [])),
)

pub returns : goal.returns
returns g c =
    let given = c.into_iter-entity-iterator.ensures.into_iter_gives in
    let seen = YieldsList-end (YieldsList-from_vec c.args.events.items given.0 (given.1 ∙ c.args.events.ok.0)) c.loop-entity.yielded c.loop-entity.entity-iterator c.loop-entity.yielded_by _ c.next.new.self c.in-None.is c.next.ensures.steps in
    c.loop-entity.invariant.2 ∙ ap (after_all c.args.self.now) (sym (map-id c.loop-entity.yielded) ∙ seen.0)

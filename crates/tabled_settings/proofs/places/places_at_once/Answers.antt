use Rattle.std.proofs.Common.{ℕ, ◌+◌, Ok, length, rules, tests, refl, arith}
use Rattle.std.specs.BTreeMap.{IsFromIterResult}
use Rattle.std.proofs.lemmas.Iterator.{YieldsList-from_map, YieldsList-from_range, YieldsList-from_slice, YieldsList-from_zip}
use Rattle.std.proofs.lemmas.Iterator.Adapters.{fact_from_collect}
use Rattle.std.proofs.lemmas.Iterator.Consumers.{YieldsList-at}
use Rattle.tabled_settings.specs.Slots.{entity_cmp}
use Rattle.tabled_settings.proofs.places.places_at_once.Goals as goal

pub returns : goal.returns
returns g c =
    let places = YieldsList-from_range c.args.first (c.args.first + length c.args.events.now) (length c.args.events.now) refl (omega arith) in
    fact_from_collect {E = ℕ} (IsFromIterResult entity_cmp) (Ok c.in_ok-collect.field-0) c.in_ok-collect.ensures.ran
    (YieldsList-from_zip
    (YieldsList-at c.zip.ensures.first (YieldsList-from_map _ (λ event. event.0) (YieldsList-at c.map-entities.ensures.source (YieldsList-from_slice c.args.events.now c.iter.ensures.rest)) c.map-entities.ensures.closure (λ x r q k. search (rules, tests))))
    (YieldsList-at c.zip.ensures.second places))

use Rattle.std.proofs.Common.{ℕ, Ok, rules, tests}
use Rattle.std.specs.BTreeMap.{IsFromIterResult}
use Rattle.std.proofs.lemmas.Iterator.{YieldsList-from_slice}
use Rattle.std.proofs.lemmas.Iterator.Adapters.{fact_from_collect}
use Rattle.std.proofs.lemmas.Iterator.Consumers.{YieldsList-at, YieldsList-from_enumerate, YieldsList-from_filter_map}
use Rattle.tabled_settings.specs.Slots.{entity_cmp}
use Rattle.tabled_settings.proofs.Numbering.{entity_at, made_of_slots}
use Rattle.tabled_settings.proofs.places.places_of.Goals as goal

pub returns : goal.returns
returns g c =
    made_of_slots c.in_ok-collect.field-0 c.args.slots.now
    (fact_from_collect {E = ℕ} (IsFromIterResult entity_cmp) (Ok c.in_ok-collect.field-0) c.in_ok-collect.ensures.ran
    (YieldsList-from_filter_map _ entity_at
    (YieldsList-at c.filter_map-standing.ensures.source
    (YieldsList-from_enumerate (YieldsList-at c.enumerate-places.ensures.source (YieldsList-from_slice c.args.slots.now c.iter.ensures.rest)) c.enumerate-places.ensures.count))
    c.filter_map-standing.ensures.closure (λ x r q k. search (rules, tests))))

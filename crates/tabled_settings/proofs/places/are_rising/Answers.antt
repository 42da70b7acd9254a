use Rattle.std.proofs.Common.{rules}
use Rattle.std.specs.Ordering.{is_lt}
use Rattle.std.proofs.lemmas.List.Sorted.{answers_always}
use Rattle.tabled_settings.specs.Slots.{entity_cmp}
use Rattle.tabled_settings.proofs.AtOnce.{rising-by_neighbors}
use Rattle.tabled_settings.proofs.places.are_rising.Goals as goal

pub returns : goal.returns
returns g c = rising-by_neighbors c.args.events.now c.is_sorted_by.result
    (c.is_sorted_by.ensures.cases (λ event next. is_lt (entity_cmp event.0 next.0)) (answers_always _ _ _ (λ f a r f' called. search rules)))

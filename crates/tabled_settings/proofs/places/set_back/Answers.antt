use Rattle.std.proofs.Common.{cond, sym, ap, None, is_some, ◌∙◌}
use Rattle.std.specs.BTreeMap.{get}
use Rattle.tabled_settings.specs.Setting.{same_entity}
use Rattle.tabled_settings.specs.Slots.{entity_cmp}
use Rattle.tabled_settings.proofs.SettingBack.{given_place, place_again}
use Rattle.tabled_settings.proofs.places.set_back.Goals as goal

pub returns-in-Some : goal.returns-in-Some
returns-in-Some c = λ has which.
    place_again c.args.places.now c.insert.new.self c.args.entity c.in-Some.place c.insert.result (has (ap is_some c.in-Some.is)) c.insert.ensures.updates c.insert.ensures.absent which
    ∙ ap (λ before. cond (same_entity which c.args.entity) before (get entity_cmp c.args.places.now which)) (sym c.in-Some.is)

pub returns-in-None : goal.returns-in-None
returns-in-None c = λ has which.
    given_place c.args.places.now c.remove.new.self c.args.entity None c.remove.ensures.updates which
    ∙ ap (λ before. cond (same_entity which c.args.entity) before (get entity_cmp c.args.places.now which)) (sym c.in-None.is)

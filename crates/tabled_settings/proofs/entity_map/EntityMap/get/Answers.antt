use Rattle.std.proofs.Common.{ap, sym, ◌∙◌, Some, None, option_map, option_copied}
use Rattle.std.specs.List.{last_or}
use Rattle.tabled_settings.specs.Setting.{covering}
use Rattle.tabled_settings.proofs.Settling.{value_at-found}
use Rattle.tabled_settings.proofs.entity_map.EntityMap.get.Goals as goal

pub returns-in-Some-Some : goal.returns-in-Some-Some
returns-in-Some-Some g c =
    value_at-found c.args.position c.args.self.now (Some (Some c.in-Some-Some.value)) (
    sym (ap option_copied c.in-Some-Some.is ∙ ap Some c.in-Some-Some.field-0-is) ∙ c.last.ensures
    ∙ ap (λ live. option_map (λ event. event.1) (last_or None (covering live.since c.args.position))) c.self.view_is)

pub returns-in-Some-None : goal.returns-in-Some-None
returns-in-Some-None g c =
    ap (λ live. live.default) c.self.view_is
    ∙ value_at-found c.args.position c.args.self.now (Some None) (
    sym (ap option_copied c.in-Some-None.is ∙ ap Some c.in-Some-None.field-0-is) ∙ c.last.ensures
    ∙ ap (λ live. option_map (λ event. event.1) (last_or None (covering live.since c.args.position))) c.self.view_is)

pub returns-in-None : goal.returns-in-None
returns-in-None g c =
    c.global.ensures
    ∙ value_at-found c.args.position c.args.self.now None (
    sym (ap option_copied c.in-None.is) ∙ c.last.ensures
    ∙ ap (λ live. option_map (λ event. event.1) (last_or None (covering live.since c.args.position))) c.self.view_is)

-- No entity that covers the cell is marked.
use Rattle.std.proofs.Common.{ap, sym, ◌∙◌, None, option_map}
use Rattle.std.specs.List.{last_or}
use Rattle.tabled_object.specs.declared.entity.Entity.TheVariants.{Global}
use Rattle.tabled_settings.specs.Setting.{covering}
use Rattle.tabled_settings.specs.Live.{has_event}
use Rattle.tabled_settings.proofs.Lasting.{last_unmarked}
use Rattle.tabled_settings.proofs.last_events.LastEvents.last.Goals as goal

pub returns-then-not-may_cover : goal.returns-then-not-may_cover
returns-then-not-may_cover g c =
    let kept = c.self.inside in
    ap (option_map (λ event. event.1)) (sym (
    ap (λ events. last_or None (covering events c.args.cell)) (sym c.self.view_is)
    ∙ last_unmarked kept.kinds kept.slots.items c.args.cell c.self.invariant.1 (sym c.may_cover.ensures ∙ c.if-not-may_cover.true) (ap (has_event Global) c.self.view_is ∙ c.requires)))

use Rattle.std.proofs.Common.{ap, sym, ◌∙◌, None, option_map}
use Rattle.std.specs.List.{last_or}
use Rattle.tabled_object.specs.declared.entity.Entity.TheVariants.{Global}
use Rattle.tabled_settings.specs.Setting.{covering}
use Rattle.tabled_settings.specs.Live.{has_event}
use Rattle.tabled_settings.specs.Slots.{standing, event_at, later_of}
use Rattle.tabled_settings.proofs.Lasting.{last_by_three}
use Rattle.tabled_settings.proofs.last_events.LastEvents.last_found.Goals as goal

pub returns : goal.returns
returns g c =
    let slots = c.as_slice-slots.result.now in
    let shown = ap standing c.as_slice-slots.ensures.value ∙ c.self.view_is in
    c.value_at.ensures
    ∙ ap (option_map (λ event. event.1)) (
    ap (event_at slots) (c.later-place.ensures ∙ (λ i. later_of (c.place_of-of_cell.ensures i) ((c.later.ensures ∙ (λ j. later_of (c.place_of-of_row.ensures j) (c.place_of-of_column.ensures j))) i)))
    ∙ sym (last_by_three slots c.args.cell (ap (has_event Global) shown ∙ c.requires))
    ∙ ap (λ events. last_or None (covering events c.args.cell)) shown)

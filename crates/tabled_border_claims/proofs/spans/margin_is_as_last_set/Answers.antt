use Rattle.tabled_layout.specs.Margin.{size_event, offset_event, color_event}
use Rattle.tabled_layout.proofs.LayoutLemmas.{as_last_set, size_changed, offset_changed, color_changed}
use Rattle.tabled_border_claims.proofs.spans.margin_is_as_last_set.Goals as goal

pub returns-clause-size : goal.returns-clause-size
returns-clause-size c = λ events. as_last_set size_event (λ m. m.size) size_changed events

pub returns-clause-offset : goal.returns-clause-offset
returns-clause-offset c = λ events. as_last_set offset_event (λ m. m.offset) offset_changed events

pub returns-clause-color : goal.returns-clause-color
returns-clause-color c = λ events. as_last_set color_event (λ m. m.color) color_changed events

use Rattle.std.proofs.Common.{false, None, refl}
use Rattle.tabled_settings.specs.declared.alignment.AlignmentHorizontal.{AlignmentHorizontal}
use Rattle.tabled_settings.specs.declared.alignment.AlignmentVertical.{AlignmentVertical}
use Rattle.tabled_settings.specs.CellSettings.{no_colors, alignment_horizontal_event, alignment_vertical_event, trim_horizontal_event, trim_vertical_event, line_alignment_event, justification_event, justification_color_event, padding_event, padding_color_event}
use Rattle.tabled_settings.specs.Padding.{first_padding}
use Rattle.tabled_settings.proofs.SettingsLemmas.{own_setting}
use Rattle.tabled_border_claims.proofs.settings.each_by_its_own_events.Goals as goal

pub returns-clause-alignment_horizontal : goal.returns-clause-alignment_horizontal
returns-clause-alignment_horizontal c = λ events cell. own_setting alignment_horizontal_event (λ s. s.alignment_horizontal) (λ s e. refl) AlignmentHorizontal.Left refl events cell

pub returns-clause-alignment_vertical : goal.returns-clause-alignment_vertical
returns-clause-alignment_vertical c = λ events cell. own_setting alignment_vertical_event (λ s. s.alignment_vertical) (λ s e. refl) AlignmentVertical.Top refl events cell

pub returns-clause-trim_horizontal : goal.returns-clause-trim_horizontal
returns-clause-trim_horizontal c = λ events cell. own_setting trim_horizontal_event (λ s. s.trim_horizontal) (λ s e. refl) false refl events cell

pub returns-clause-trim_vertical : goal.returns-clause-trim_vertical
returns-clause-trim_vertical c = λ events cell. own_setting trim_vertical_event (λ s. s.trim_vertical) (λ s e. refl) false refl events cell

pub returns-clause-line_alignment : goal.returns-clause-line_alignment
returns-clause-line_alignment c = λ events cell. own_setting line_alignment_event (λ s. s.line_alignment) (λ s e. refl) false refl events cell

pub returns-clause-justification : goal.returns-clause-justification
returns-clause-justification c = λ events cell. own_setting justification_event (λ s. s.justification) (λ s e. refl) 32 refl events cell

pub returns-clause-justification_color : goal.returns-clause-justification_color
returns-clause-justification_color c = λ events cell. own_setting justification_color_event (λ s. s.justification_color) (λ s e. refl) None refl events cell

pub returns-clause-padding : goal.returns-clause-padding
returns-clause-padding c = λ events cell. own_setting padding_event (λ s. s.padding) (λ s e. refl) first_padding refl events cell

pub returns-clause-padding_color : goal.returns-clause-padding_color
returns-clause-padding_color c = λ events cell. own_setting padding_color_event (λ s. s.padding_color) (λ s e. refl) no_colors refl events cell

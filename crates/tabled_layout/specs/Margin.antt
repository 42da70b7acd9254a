-- The margin around a table: each of its parts is as it was set last.
use Rattle.std.specs.Prelude.{Option, Some, None, List, [], ◌∷◌}
use Rattle.tabled_border.specs.Texts.{Texts}
use Rattle.tabled_object.specs.declared.offset.Offset.{Offset}
use Rattle.tabled_object.specs.declared.offset.Offset.TheVariants.{Start}
use Rattle.tabled_settings.specs.declared.indent.Indent.{Indent}
use Rattle.tabled_settings.specs.declared.sides.Sides.{Sides}
use Rattle.tabled_settings.specs.Padding.{no_indent}
use Rattle.tabled_layout.specs.declared.margin.Margin.{Margin}

-- one value on every side
abbrev pub on_each_side : {T : Type 0} → T → Sides T
on_each_side value = record { left = value; right = value; top = value; bottom = value }

-- before anything is set there is no room on any side, each side begins at its start, and none has a color
abbrev pub first_margin : Margin
first_margin = record { size = on_each_side no_indent; offset = on_each_side (Start 0); color = on_each_side None }

-- one part of the margin is set, on all sides
pub data MarginEvent : Type 0 where
  of_size : Sides Indent → MarginEvent
  of_offset : Sides Offset → MarginEvent
  of_color : Sides (Option Texts) → MarginEvent

-- the event as one of each kind
abbrev pub size_event : MarginEvent → Option (Sides Indent)
size_event (of_size size) = Some size
size_event _ = None

abbrev pub offset_event : MarginEvent → Option (Sides Offset)
offset_event (of_offset offset) = Some offset
offset_event _ = None

abbrev pub color_event : MarginEvent → Option (Sides (Option Texts))
color_event (of_color color) = Some color
color_event _ = None

-- the margin after an event: the part that was set is as it was set, the others are as they were
abbrev pub after_margin : Margin → MarginEvent → Margin
after_margin margin (of_size size) = record margin { size = size }
after_margin margin (of_offset offset) = record margin { offset = offset }
after_margin margin (of_color color) = record margin { color = color }

-- the margin after a list of events
abbrev pub margin_after : Margin → List MarginEvent → Margin
margin_after margin [] = margin
margin_after margin (event ∷ events) = margin_after (after_margin margin event) events

-- the events that make a margin: one for each part
abbrev pub margin_left : Margin → List MarginEvent
margin_left margin = of_size margin.size ∷ of_offset margin.offset ∷ of_color margin.color ∷ []

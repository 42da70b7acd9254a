-- What options set of the margin around a table.
use Rattle.std.specs.Prelude.{ℕ, Bool, true, false, Option, Some, None, List, [], ◌++◌}
use Rattle.tabled_border.specs.Texts.{Texts}
use Rattle.tabled_object.specs.declared.offset.Offset.{Offset}
use Rattle.tabled_object.specs.declared.offset.Offset.TheVariants.{Start, End}
use Rattle.tabled_settings.specs.declared.sides.Sides.{Sides}
use Rattle.tabled_settings.specs.declared.indent.Indent.{Indent}
use Rattle.tabled_settings.specs.Padding.{no_indent}
pub use Rattle.tabled_settings.specs.Padding.{spaces}
use Rattle.tabled_layout.specs.Margin.{of_size, of_offset, of_color}
use Rattle.tabled_configuration.specs.Configuration.{ConfigEvent, by_margin}
use Rattle.tabled_color.specs.Shade.{Shade, texts_of}
use Rattle.tabled_formatting.specs.SideTexts.{side_texts}
use Rattle.tabled_formatting.specs.declared.shadow.Shadow.{Shadow}

-- the same room on each side, filled with other characters
abbrev pub with_fills : Sides Indent → ℕ → ℕ → ℕ → ℕ → Sides Indent
with_fills sizes left right top bottom = record {
  left = record { size = sizes.left.size; fill = left };
  right = record { size = sizes.right.size; fill = right };
  top = record { size = sizes.top.size; fill = top };
  bottom = record { size = sizes.bottom.size; fill = bottom };
}

-- room on each side of the margin
abbrev pub margin_given : Sides Indent → List ConfigEvent
margin_given sizes = by_margin (of_size sizes)

-- a color for each side of the margin
abbrev pub margin_colored : {C : Type 0} → (C → List ℕ) → (C → List ℕ) → Sides C → List ConfigEvent
margin_colored prefix suffix colors = by_margin (of_color (side_texts prefix suffix colors))

-- a side on which a shadow falls is as wide as the shadow and filled with its character; on the others there is no room
abbrev pub indent_of : Shadow → Bool → Indent
indent_of shadow true = record { size = shadow.size; fill = shadow.fill }
indent_of shadow false = no_indent

abbrev pub shadow_sizes : Shadow → Sides Indent
shadow_sizes shadow = record {
  left = indent_of shadow shadow.direction.left;
  right = indent_of shadow shadow.direction.right;
  top = indent_of shadow shadow.direction.top;
  bottom = indent_of shadow shadow.direction.bottom;
}

-- a side on which a shadow falls leaves as many places free as its offset says, at the end that is away from the corner where
-- its two sides meet: at the start where they meet at the side's end
abbrev pub offset_of : Shadow → Bool → Bool → Offset
offset_of shadow true true = Start shadow.offset
offset_of shadow true false = End shadow.offset
offset_of shadow false meets_at_end = Start 0

-- the end of an upright side is below, that of a level one at the right
abbrev pub shadow_offsets : Shadow → Sides Offset
shadow_offsets shadow = record {
  left = offset_of shadow shadow.direction.left shadow.direction.bottom;
  right = offset_of shadow shadow.direction.right shadow.direction.bottom;
  top = offset_of shadow shadow.direction.top shadow.direction.right;
  bottom = offset_of shadow shadow.direction.bottom shadow.direction.right;
}

-- the sides on which a shadow falls have its color, the others none
abbrev pub color_of : Shade → Bool → Option Texts
color_of color true = Some (texts_of color)
color_of color false = None

abbrev pub shadow_colors : Shade → Sides Bool → Sides (Option Texts)
shadow_colors color direction = record {
  left = color_of color direction.left;
  right = color_of color direction.right;
  top = color_of color direction.top;
  bottom = color_of color direction.bottom;
}

-- without a color the margin's colors stay
abbrev pub shadow_colored : Option Shade → Sides Bool → List ConfigEvent
shadow_colored None direction = []
shadow_colored (Some color) direction = by_margin (of_color (shadow_colors color direction))

-- a shadow sets the sizes and the offsets of the margin, and its colors where it has one
abbrev pub shadow_set : Shadow → List ConfigEvent
shadow_set shadow =
    by_margin (of_size (shadow_sizes shadow)) ++ by_margin (of_offset (shadow_offsets shadow)) ++ shadow_colored shadow.color shadow.direction

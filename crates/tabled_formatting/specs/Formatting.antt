-- What options set for the cells of an entity.
use Rattle.std.specs.Prelude.{ℕ, Bool, true, false, Option, option_map, unwrap_or, List, ◌++◌}
use Rattle.tabled_object.specs.declared.entity.Entity.{Entity}
use Rattle.tabled_settings.specs.declared.indent.Indent.{Indent}
use Rattle.tabled_settings.specs.declared.sides.Sides.{Sides}
use Rattle.tabled_settings.specs.Setting.{write_of}
use Rattle.tabled_settings.specs.CellSettings.{of_alignment_horizontal, of_alignment_vertical, of_trim_horizontal, of_trim_vertical, of_line_alignment, of_justification, of_justification_color, of_padding, of_padding_color}
use Rattle.tabled_configuration.specs.Configuration.{ConfigEvent, by_setting}
use Rattle.tabled_color.specs.Shade.{Shade, texts_of}
use Rattle.tabled_formatting.specs.SideTexts.{side_texts}
use Rattle.tabled_formatting.specs.declared.alignment.Alignment.{Alignment}
use Rattle.tabled_formatting.specs.declared.alignment_strategy.AlignmentStrategy.{AlignmentStrategy}
use Rattle.tabled_formatting.specs.declared.trim_strategy.TrimStrategy.{TrimStrategy}

-- an alignment sets that of its own direction
abbrev pub alignment_set : Alignment → Entity → List ConfigEvent
alignment_set (Alignment.Horizontal alignment) entity = by_setting (of_alignment_horizontal (write_of entity alignment))
alignment_set (Alignment.Vertical alignment) entity = by_setting (of_alignment_vertical (write_of entity alignment))

-- whether each line of a text is aligned by itself
abbrev pub each_line : AlignmentStrategy → Bool
each_line AlignmentStrategy.PerCell = false
each_line AlignmentStrategy.PerLine = true

abbrev pub strategy_set : AlignmentStrategy → Entity → List ConfigEvent
strategy_set strategy entity = by_setting (of_line_alignment (write_of entity (each_line strategy)))

-- one direction turns its trim on and leaves the other one as it is; both and none set both
abbrev pub trim_set : TrimStrategy → Entity → List ConfigEvent
trim_set TrimStrategy.Vertical entity = by_setting (of_trim_vertical (write_of entity true))
trim_set TrimStrategy.Horizontal entity = by_setting (of_trim_horizontal (write_of entity true))
trim_set TrimStrategy.Both entity = by_setting (of_trim_horizontal (write_of entity true)) ++ by_setting (of_trim_vertical (write_of entity true))
trim_set TrimStrategy.None entity = by_setting (of_trim_horizontal (write_of entity false)) ++ by_setting (of_trim_vertical (write_of entity false))

-- what fills cells beside their texts, and its color, where they are given
pub record Justifying : Type 0 where
  pub character : Option ℕ
  pub color : Option Shade

-- without a character it is a space, and without a color there is none
abbrev pub justification_set : Justifying → Entity → List ConfigEvent
justification_set given entity =
    by_setting (of_justification (write_of entity (unwrap_or given.character 32)))
    ++ by_setting (of_justification_color (write_of entity (option_map texts_of given.color)))

-- so much padding on each side
abbrev pub padding_given : Sides Indent → Entity → List ConfigEvent
padding_given sizes entity = by_setting (of_padding (write_of entity sizes))

-- a color for each side of the padding
abbrev pub padding_set : {C : Type 0} → (C → List ℕ) → (C → List ℕ) → Sides C → Entity → List ConfigEvent
padding_set prefix suffix colors entity = by_setting (of_padding_color (write_of entity (side_texts prefix suffix colors)))

-- What options set is no color of cells.
use Rattle.std.specs.Prelude.{◌≡◌, Option, Some, None, [], refl}
use Rattle.tabled_object.specs.declared.entity.Entity.{Entity}
use Rattle.tabled_color.specs.Shade.{Shade}
use Rattle.tabled_configuration.specs.Configuration.{cell_colors_of}
use Rattle.tabled_formatting.specs.declared.alignment.Alignment.{Alignment}
use Rattle.tabled_formatting.specs.declared.trim_strategy.TrimStrategy.{TrimStrategy}
use Rattle.tabled_formatting.specs.declared.shadow.Shadow.{Shadow}
use Rattle.tabled_formatting.specs.Formatting.{alignment_set, trim_set}
use Rattle.tabled_formatting.specs.Margins.{shadow_colored, shadow_set}

pub none_in_alignment_set : (alignment : Alignment) (entity : Entity) → cell_colors_of (alignment_set alignment entity) ≡ []
none_in_alignment_set (Alignment.Horizontal alignment) entity = refl
none_in_alignment_set (Alignment.Vertical alignment) entity = refl

pub none_in_trim_set : (trim : TrimStrategy) (entity : Entity) → cell_colors_of (trim_set trim entity) ≡ []
none_in_trim_set TrimStrategy.Vertical entity = refl
none_in_trim_set TrimStrategy.Horizontal entity = refl
none_in_trim_set TrimStrategy.Both entity = refl
none_in_trim_set TrimStrategy.None entity = refl

none_when_colored : (color : Option Shade) (shadow : Shadow) → cell_colors_of (shadow_colored color shadow.direction) ≡ []
none_when_colored (Some given) shadow = refl
none_when_colored None shadow = refl

pub none_in_shadow_set : (shadow : Shadow) → cell_colors_of (shadow_set shadow) ≡ []
none_in_shadow_set shadow = none_when_colored shadow.color shadow

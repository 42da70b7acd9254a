-- What a shadow sets, one call after the other.
use Rattle.std.proofs.Common.{◌≡◌, Option, Some, None, option_map, List, [], ◌++◌, refl, ap, subst, ◌∙◌}
use Rattle.tabled_border.specs.Texts.{Texts}
use Rattle.tabled_object.specs.declared.offset.Offset.{Offset}
use Rattle.tabled_settings.specs.declared.sides.Sides.{Sides}
use Rattle.tabled_settings.specs.declared.indent.Indent.{Indent}
use Rattle.tabled_layout.specs.Margin.{of_size, of_offset, of_color}
use Rattle.tabled_color.specs.Shade.{Shade}
use Rattle.tabled_configuration.specs.ChangeLaws.{both_change_borders}
use Rattle.tabled_configuration.specs.Configuration.{Configuration, ConfigEvent, Changes, by_margin}
use Rattle.tabled_formatting.specs.declared.shadow.Shadow.{Shadow}
use Rattle.tabled_formatting.specs.Margins.{shadow_sizes, shadow_offsets, shadow_colors, shadow_colored, shadow_set}

-- the events of its color, where it has one and where it has none
pub with_color : (color : Option Shade) (shadow : Shadow) (colors : Sides (Option Texts)) → Some colors ≡ option_map (λ given. shadow_colors given shadow.direction) color → by_margin (of_color colors) ≡ shadow_colored color shadow.direction
with_color (Some given) shadow colors is = cc
with_color None shadow colors is = cc

pub without_color : (color : Option Shade) (shadow : Shadow) → None ≡ option_map (λ given. shadow_colors given shadow.direction) color → [] ≡ shadow_colored color shadow.direction
without_color (Some given) shadow is = cc
without_color None shadow is = refl

-- sizes, then offsets, then what is done for its color
pub shadow_falls : (shadow : Shadow) (size : Sides Indent) (offset : Sides Offset) (es : List ConfigEvent) (old sized placed new : Configuration) → size ≡ shadow_sizes shadow → offset ≡ shadow_offsets shadow → es ≡ shadow_colored shadow.color shadow.direction → Changes (by_margin (of_size size)) old sized → Changes (by_margin (of_offset offset)) sized placed → Changes es placed new → Changes (shadow_set shadow) old new
shadow_falls shadow size offset es old sized placed new size_is offset_is colored by_size by_offset by_color =
    subst (λ all. Changes all old new)
    (ap (λ given. by_margin (of_size given) ++ (by_margin (of_offset offset) ++ es)) size_is
    ∙ ap (λ given. by_margin (of_size (shadow_sizes shadow)) ++ (by_margin (of_offset given) ++ es)) offset_is
    ∙ ap (λ last. by_margin (of_size (shadow_sizes shadow)) ++ (by_margin (of_offset (shadow_offsets shadow)) ++ last)) colored)
    (both_change_borders (by_margin (of_size size)) (by_margin (of_offset offset) ++ es) old sized new by_size (both_change_borders (by_margin (of_offset offset)) es sized placed new by_offset by_color))

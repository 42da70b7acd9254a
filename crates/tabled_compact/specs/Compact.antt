-- What compact configurations have at first.
use Rattle.std.specs.Prelude.{◌≡◌, false, []}
use Rattle.tabled_border.specs.Texts.{Texts}
use Rattle.tabled_border.specs.LentTexts.{lent_texts}
use Rattle.tabled_border.specs.declared.ansi.ANSIStr.{ANSIStr}
use Rattle.tabled_places.specs.CustomLines.{no_borders}
use Rattle.tabled_settings.specs.declared.alignment.AlignmentHorizontal.TheVariants.{Left}
use Rattle.tabled_settings.specs.declared.alignment.AlignmentVertical.TheVariants.{Top}
use Rattle.tabled_settings.specs.declared.sides.Sides.{Sides}
use Rattle.tabled_compact.specs.declared.compact_config.CompactConfig.{CompactConfig}
use Rattle.tabled_compact.specs.declared.multiline_config.CompactMultilineConfig.{CompactMultilineConfig}

-- the texts of the colors of four sides
abbrev pub side_texts : Sides ANSIStr → Sides Texts
side_texts sides = record {
  left = lent_texts sides.left;
  right = lent_texts sides.right;
  top = lent_texts sides.top;
  bottom = lent_texts sides.bottom;
}

-- the texts of an empty color
abbrev pub no_texts : Texts
no_texts = record { prefix = []; suffix = [] }

-- they have no texts on any side
abbrev pub HaveNoTexts : Sides ANSIStr → Type 0
HaveNoTexts sides = side_texts sides ≡ record { left = no_texts; right = no_texts; top = no_texts; bottom = no_texts }

-- no borders, texts at the left side, empty colors
pub record IsPlain (config : CompactConfig) : Type 0 where
  pub no_class_record : config.borders ≡ no_borders
  pub at_the_left : config.alignment_horizontal ≡ Left
  pub margin_without_color : HaveNoTexts config.margin_color
  pub padding_without_color : HaveNoTexts config.padding_color

-- the same, with texts at the upper side, nothing trimmed and lines not aligned by themselves
pub record IsPlainMultiline (config : CompactMultilineConfig) : Type 0 where
  pub no_class_record : config.borders ≡ no_borders
  pub at_the_left : config.alignment_horizontal ≡ Left
  pub at_the_top : config.alignment_vertical ≡ Top
  pub as_it_stands : config.formatting ≡ record { horizontal_trim = false; vertical_trim = false; allow_lines_alignment = false }
  pub margin_without_color : HaveNoTexts config.margin_color
  pub padding_without_color : HaveNoTexts config.padding_color

-- What a theme shows: its class record, its class colors, the custom lines that were set, and those beneath, which came
-- with a style.
use Rattle.std.specs.Prelude.{ℕ}
use Rattle.std.specs.Coded.{Coded, codes}
use Rattle.std.specs.FinMap as map
use Rattle.std.specs.FinMap.{FinMap}
use Rattle.std.specs.Ordering.{nat_cmp}
use Rattle.tabled_places.specs.declared.borders.Borders.{Borders}
use Rattle.tabled_places.specs.declared.lines.HorizontalLine.{HorizontalLine}
use Rattle.tabled_places.specs.declared.lines.VerticalLine.{VerticalLine}
use Rattle.tabled_places.specs.CustomLines.{no_borders}
use Rattle.tabled_border.specs.Texts.{Texts}
use Rattle.tabled_color.specs.Shade.{Shade, owned_shade}
use Rattle.tabled_configuration.specs.Configuration.{Configuration}
use Rattle.tabled_style.specs.Shown.{StyleShown}
use Rattle.tabled_theme.specs.Lines.{last_under}
use Rattle.tabled_theme.specs.Fields.{each_field}

-- custom lines of both directions, each under its index
pub record CustomLines : Type 0 where
  pub horizontals : FinMap nat_cmp (HorizontalLine ℕ)
  pub verticals : FinMap nat_cmp (VerticalLine ℕ)

pub record ThemeShown : Type 0 where
  pub characters : Borders ℕ
  pub colors : Borders Shade
  pub set : CustomLines
  pub beneath : CustomLines

-- by it a proof tells two themes apart
pub theme_code : Coded ThemeShown
theme_code = Prim.hlevel (codes, map.code)

abbrev pub no_lines : CustomLines
no_lines = record { horizontals = map.empty; verticals = map.empty }

-- a class record alone
abbrev pub of_borders : Borders ℕ → ThemeShown
of_borders borders = record { characters = borders; colors = no_borders; set = no_lines; beneath = no_lines }

-- a style: its record, and its lines beneath, under each index the last one of its list
abbrev pub of_style : StyleShown → ThemeShown
of_style style = record (of_borders style.borders) {
  beneath = record { horizontals = last_under style.horizontals; verticals = last_under style.verticals };
}

-- colors that own these texts
abbrev pub owned_colors : Borders Texts → Borders Shade
owned_colors colors = each_field (λ texts. owned_shade texts.prefix texts.suffix) colors

-- a configuration: its class record, its class colors as owned ones, and its custom lines as lines that were set
abbrev pub of_configuration : Configuration → ThemeShown
of_configuration cfg = record {
  characters = cfg.characters.class_record;
  colors = owned_colors cfg.colors.class_record;
  set = record { horizontals = cfg.characters.horizontal_lines; verticals = cfg.characters.vertical_lines };
  beneath = no_lines;
}

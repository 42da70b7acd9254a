-- What the calls of a theme change.
use Rattle.std.specs.Prelude.{ℕ, Option}
use Rattle.std.specs.FinMap.{FinMap, empty}
use Rattle.std.specs.Ordering.{nat_cmp}
use Rattle.tabled_places.specs.declared.lines.HorizontalLine.{HorizontalLine}
use Rattle.tabled_places.specs.declared.lines.VerticalLine.{VerticalLine}
use Rattle.tabled_places.specs.declared.place.Rank.TheVariants.{Inner as inner}
use Rattle.tabled_places.specs.declared.site.Class.{Class}
use Rattle.tabled_places.specs.Borders.{with_class}
use Rattle.tabled_color.specs.Shade.{Shade}
use Rattle.tabled_style.specs.Removing.{horizontal_dropped, vertical_dropped}
use Rattle.tabled_theme.specs.Shown.{ThemeShown}

-- a theme with this character, and with this color, for a class
abbrev pub with_character : Class → Option ℕ → ThemeShown → ThemeShown
with_character class c theme = record theme { characters = with_class class c theme.characters }

abbrev pub with_color : Class → Option Shade → ThemeShown → ThemeShown
with_color class color theme = record theme { colors = with_class class color theme.colors }

-- a theme with these as its lines that were set; those beneath stay
abbrev pub with_horizontals_set : FinMap nat_cmp (HorizontalLine ℕ) → ThemeShown → ThemeShown
with_horizontals_set lines theme = record theme { set = record theme.set { horizontals = lines } }

abbrev pub with_verticals_set : FinMap nat_cmp (VerticalLine ℕ) → ThemeShown → ThemeShown
with_verticals_set lines theme = record theme { set = record theme.set { verticals = lines } }

-- a theme without horizontal lines between rows: neither custom ones, set or beneath, nor those of its class record
abbrev pub without_horizontals : ThemeShown → ThemeShown
without_horizontals theme = record theme {
  characters = horizontal_dropped inner theme.characters;
  set = record theme.set { horizontals = empty };
  beneath = record theme.beneath { horizontals = empty };
}

abbrev pub without_verticals : ThemeShown → ThemeShown
without_verticals theme = record theme {
  characters = vertical_dropped inner theme.characters;
  set = record theme.set { verticals = empty };
  beneath = record theme.beneath { verticals = empty };
}

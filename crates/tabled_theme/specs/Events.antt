-- What a theme does to a configuration.
use Rattle.std.specs.Prelude.{◌≡◌, ℕ, List, ◌++◌}
use Rattle.tabled_places.specs.declared.borders.Borders.{Borders}
use Rattle.tabled_places.specs.State.{class_record_set}
use Rattle.tabled_border.specs.Texts.{Texts}
use Rattle.tabled_color.specs.Shade.{texts_of}
use Rattle.tabled_configuration.specs.Configuration.{ConfigEvent, by_colors, borders_replaced}
use Rattle.tabled_style.specs.Shown.{StyleShown}
use Rattle.tabled_theme.specs.Shown.{ThemeShown}
use Rattle.tabled_theme.specs.Lines.{lines_put, shown_line}
use Rattle.tabled_theme.specs.Fields.{each_field}

-- a theme as a style: its class record, and its lines as they are put
abbrev pub as_style : ThemeShown → StyleShown
as_style theme = record {
  borders = theme.characters;
  horizontals = lines_put theme.set.horizontals theme.beneath.horizontals;
  verticals = lines_put theme.set.verticals theme.beneath.verticals;
}

-- the texts of its class colors
abbrev pub color_texts : ThemeShown → Borders Texts
color_texts theme = each_field texts_of theme.colors

-- the events of a style
abbrev pub style_applied : StyleShown → List ConfigEvent
style_applied style = borders_replaced style.borders style.horizontals style.verticals

-- the events of a theme: those of that style, and then its class colors set
unfoldable pub theme_applied : ThemeShown → List ConfigEvent
theme_applied theme = style_applied (as_style theme) ++ by_colors (class_record_set (color_texts theme))

-- two themes that draw the same: the same characters, colors of the same texts, and at each index the same line that shows
pub record DrawsLike (a b : ThemeShown) : Type 0 where
  pub same_characters : a.characters ≡ b.characters
  pub same_colors : color_texts a ≡ color_texts b
  pub same_horizontals : (index : ℕ) → shown_line a.set.horizontals a.beneath.horizontals index ≡ shown_line b.set.horizontals b.beneath.horizontals index
  pub same_verticals : (index : ℕ) → shown_line a.set.verticals a.beneath.verticals index ≡ shown_line b.set.verticals b.beneath.verticals index

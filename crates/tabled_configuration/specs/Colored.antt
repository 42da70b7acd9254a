-- What the configuration that options change keeps, and what changes it.
use Rattle.std.specs.Prelude.{◌≡◌, Option, Some, None, List, [], ◌∷◌, ◌++◌}
use Rattle.std.specs.Coded.{Coded, codes}
use Rattle.std.specs.FinMap as finmap
use Rattle.tabled_border.specs.Texts.{Texts}
use Rattle.tabled_settings.specs.Setting.{EntityEvent}
use Rattle.tabled_settings.specs.Live.{Live}
use Rattle.tabled_configuration.specs.CellColors.{given, changed, colors_after}
use Rattle.tabled_configuration.specs.Configuration as borders
use Rattle.tabled_configuration.specs.Configuration.{Configuration, ConfigEvent, of_cell_colors, cell_colors_of}

-- what it keeps: the configuration of the borders, and the colors of cells, if there ever were some
pub record Colored : Type 0 where
  pub spanned : Configuration
  pub cell_colors : Option (Live Texts)

-- by it a proof tells two of them apart
pub colored_code : Coded Colored
colored_code = Prim.hlevel (codes, finmap.code)

-- it keeps what the events leave
pub record Shows (es : List ConfigEvent) (cfg : Colored) : Type 0 where
  pub spanned_shown : borders.Shows es cfg.spanned
  pub cell_colors_shown : cfg.cell_colors ≡ colors_after None (cell_colors_of es)

-- the new one keeps what the events leave where they cover something, and else what the old one kept
pub record Changes (es : List ConfigEvent) (old new : Colored) : Type 0 where
  pub spanned_changed : borders.Changes es old.spanned new.spanned
  pub cell_colors_changed : new.cell_colors ≡ colors_after old.cell_colors (cell_colors_of es)

-- one color of cells written or removed
abbrev pub by_cell_color : EntityEvent Texts → List ConfigEvent
by_cell_color event = of_cell_colors (changed event) ∷ []

-- the colors of cells given, if there are some
abbrev pub colors_given : Option (Live Texts) → List ConfigEvent
colors_given None = []
colors_given (Some live) = of_cell_colors (given live) ∷ []

-- the writes of all that it keeps
abbrev pub all_writes : Colored → List ConfigEvent
all_writes cfg = borders.all_writes cfg.spanned ++ colors_given cfg.cell_colors

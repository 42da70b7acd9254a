-- The laws of changes: no events change nothing, and two changes in a row are the change by the events of both.
use Rattle.std.specs.Prelude.{◌≡◌, Option, List, [], ◌∷◌, ◌++◌}
use Rattle.std.proofs.Common.{refl, sym, ap, subst, ◌∙◌}
use Rattle.std.proofs.lemmas.List.Elements.{filter_map-append}
use Rattle.tabled_places.specs.Event as grid
use Rattle.tabled_places.specs.State.{state_at}
use Rattle.tabled_places.proofs.Replay.{Changes-append, Changes-nil}
use Rattle.tabled_border.specs.Texts.{Texts}
use Rattle.tabled_settings.specs.Live.{Live}
use Rattle.tabled_layout.specs.TableSettings.{settings_after}
use Rattle.tabled_layout.proofs.LayoutLemmas.{settings_after-append}
use Rattle.tabled_configuration.specs.CellColors.{CellColorEvent, colors_after_event, colors_after}
use Rattle.tabled_configuration.specs.Configuration as borders
use Rattle.tabled_configuration.specs.Configuration.{Configuration, ConfigEvent, character_event, color_event, setting_event, cell_color_event, characters_of, colors_of, settings_of, cell_colors_of}
use Rattle.tabled_configuration.specs.Colored.{Colored, Changes}

-- of the configuration of the borders
pub none_change_borders : (cfg : Configuration) → borders.Changes [] cfg cfg
none_change_borders cfg = record { characters_changed = Changes-nil (state_at cfg.characters); colors_changed = Changes-nil (state_at cfg.colors); settings_changed = refl }

pub both_change_borders : (es fs : List ConfigEvent) (old between new : Configuration) → borders.Changes es old between → borders.Changes fs between new → borders.Changes (es ++ fs) old new
both_change_borders es fs old between new by_es by_fs = record {
  characters_changed = subst (λ all. grid.Changes all (state_at old.characters) (state_at new.characters)) (sym (filter_map-append character_event es fs)) (Changes-append (characters_of es) (characters_of fs) (state_at old.characters) (state_at between.characters) (state_at new.characters) by_es.characters_changed by_fs.characters_changed);
  colors_changed = subst (λ all. grid.Changes all (state_at old.colors) (state_at new.colors)) (sym (filter_map-append color_event es fs)) (Changes-append (colors_of es) (colors_of fs) (state_at old.colors) (state_at between.colors) (state_at new.colors) by_es.colors_changed by_fs.colors_changed);
  settings_changed = by_fs.settings_changed ∙ ap (λ settings. settings_after settings (settings_of fs)) by_es.settings_changed ∙ sym (ap (settings_after old.settings) (filter_map-append setting_event es fs) ∙ settings_after-append old.settings (settings_of es) (settings_of fs));
}

-- of the colors of cells
pub colors_after-append : (colors : Option (Live Texts)) (es fs : List CellColorEvent) → colors_after colors (es ++ fs) ≡ colors_after (colors_after colors es) fs
colors_after-append colors [] fs = refl
colors_after-append colors (e ∷ es) fs = colors_after-append (colors_after_event colors e) es fs

-- of the whole
pub none_change : (cfg : Colored) → Changes [] cfg cfg
none_change cfg = record { spanned_changed = none_change_borders cfg.spanned; cell_colors_changed = refl }

pub both_change : (es fs : List ConfigEvent) (old between new : Colored) → Changes es old between → Changes fs between new → Changes (es ++ fs) old new
both_change es fs old between new by_es by_fs = record {
  spanned_changed = both_change_borders es fs old.spanned between.spanned new.spanned by_es.spanned_changed by_fs.spanned_changed;
  cell_colors_changed = by_fs.cell_colors_changed ∙ ap (λ colors. colors_after colors (cell_colors_of fs)) by_es.cell_colors_changed ∙ sym (ap (colors_after old.cell_colors) (filter_map-append cell_color_event es fs) ∙ colors_after-append old.cell_colors (cell_colors_of es) (cell_colors_of fs));
}

-- The configuration that options change, by the events of its parts.
use Rattle.std.proofs.Common.{◌≡◌, ◌==◌, ◌||◌, ℕ, Bool, true, false, cond, Option, Some, None, List, [], ◌∷◌, ◌++◌, map, refl, sym, ap, subst, ◌∙◌, append-nil}
use Rattle.std.proofs.lemmas.List.Elements.{filter_map-append}
use Rattle.tabled_border.specs.Texts.{Texts}
use Rattle.tabled_border.specs.declared.border.Border.{Border}
use Rattle.tabled_object.specs.declared.entity.Entity.{Entity}
use Rattle.tabled_places.specs.declared.borders.Borders.{Borders}
use Rattle.tabled_places.specs.declared.lines.HorizontalLine.{HorizontalLine}
use Rattle.tabled_places.specs.declared.lines.VerticalLine.{VerticalLine}
use Rattle.tabled_places.specs.declared.writes.Write.{Write}
use Rattle.tabled_places.specs.declared.event.Event.TheVariants.{Erase as erase}
use Rattle.tabled_places.specs.declared.event.Region.TheVariants.{All as every_site}
use Rattle.tabled_places.specs.declared.event.Event.{Event}
use Rattle.tabled_places.specs.Writes.{writes_made}
use Rattle.tabled_places.specs.Calls.{entity_border_set, entity_border_erased, frame_erased}
use Rattle.tabled_places.specs.State.{state_at, class_record_set, writes_of}
use Rattle.tabled_places.proofs.EntityBorders.{nothing_written}
use Rattle.tabled_places.proofs.Replay.{Changes-nil}
use Rattle.tabled_settings.specs.Setting.{EntityEvent}
use Rattle.tabled_settings.specs.Live.{Live}
use Rattle.tabled_layout.specs.TableSettings.{TableEvent, settings_left}
use Rattle.tabled_configuration.specs.CellColors.{given, changed, colors_after_event, colors_after}
use Rattle.tabled_configuration.specs.ChangeLaws.{colors_after-append, none_change_borders}
use Rattle.tabled_configuration.specs.Configuration as borders
use Rattle.tabled_configuration.specs.Configuration.{Configuration, ConfigEvent, of_characters, of_colors, of_settings, of_cell_colors, cell_color_event, cell_colors_of, by_characters, by_colors, borders_set, borders_replaced, horizontal_lines_put, vertical_lines_put, writes_applied}
use Rattle.tabled_configuration.specs.Options.{entity_bordered, entity_unbordered, inner_of, table_unbordered}
use Rattle.tabled_configuration.specs.Colored.{Colored, Shows, Changes, by_cell_color, colors_given, all_writes}
use Rattle.tabled_configuration.proofs.ConfigurationLemmas.{passed_over, both_passed_over, Shows_after_change, Shows-all_writes}

-- a change of the borders, or of settings, leaves the colors of cells
pub Changes_spanned : (es : List ConfigEvent) (old new : Colored) → cell_colors_of es ≡ [] → new.cell_colors ≡ old.cell_colors → borders.Changes es old.spanned new.spanned → Changes es old new
Changes_spanned es old new none same changes = record {
  spanned_changed = changes;
  cell_colors_changed = same ∙ sym (ap (colors_after old.cell_colors) none);
}

-- events of border characters and border colors are none of the colors of cells
pub none_by_characters : (es : List (Event ℕ)) → cell_colors_of (by_characters es) ≡ []
none_by_characters es = passed_over of_characters cell_color_event (λ e. refl) es

pub none_by_colors : (es : List (Event Texts)) → cell_colors_of (by_colors es) ≡ []
none_by_colors es = passed_over of_colors cell_color_event (λ e. refl) es

pub none_by_both : (es : List (Event ℕ)) (fs : List (Event Texts)) → cell_colors_of (by_characters es ++ by_colors fs) ≡ []
none_by_both es fs = both_passed_over cell_color_event (by_characters es) (by_colors fs) (none_by_characters es) (none_by_colors fs)

-- a list that was shown before a change, followed by its events, is shown after it
pub Shows_after_change_colored : (before es : List ConfigEvent) (old new : Colored) → Changes es old new → Shows before old → Shows (before ++ es) new
Shows_after_change_colored before es old new changes shows = record {
  spanned_shown = Shows_after_change before es old.spanned new.spanned changes.spanned_changed shows.spanned_shown;
  cell_colors_shown =
      changes.cell_colors_changed ∙ ap (λ colors. colors_after colors (cell_colors_of es)) shows.cell_colors_shown
      ∙ sym (colors_after-append None (cell_colors_of before) (cell_colors_of es))
      ∙ ap (colors_after None) (sym (filter_map-append cell_color_event before es));
}

-- a map given is no change of the borders and settings, and is what is there after it
given_changes : (colors : Option (Live Texts)) (cfg : Configuration) → borders.Changes (colors_given colors) cfg cfg
given_changes None cfg = none_change_borders cfg
given_changes (Some live) cfg = record {
  characters_changed = Changes-nil (state_at cfg.characters);
  colors_changed = Changes-nil (state_at cfg.colors);
  settings_changed = refl;
}

given_alone : (colors : Option (Live Texts)) → colors_after None (cell_colors_of (colors_given colors)) ≡ colors
given_alone None = refl
given_alone (Some live) = refl

none_of_settings : (es : List TableEvent) → cell_colors_of (map of_settings es) ≡ []
none_of_settings es = passed_over of_settings cell_color_event (λ e. refl) es

none_in_writes : (cfg : Configuration) → cell_colors_of (borders.all_writes cfg) ≡ []
unfolding borders.all_writes
none_in_writes cfg =
    both_passed_over cell_color_event (by_characters (writes_of cfg.characters) ++ by_colors (writes_of cfg.colors)) (map of_settings (settings_left cfg.settings))
    (none_by_both (writes_of cfg.characters) (writes_of cfg.colors)) (none_of_settings (settings_left cfg.settings))

-- one that shows some list shows the writes of all that it keeps
pub Shows-all_writes_colored : (es : List ConfigEvent) (cfg : Colored) → Shows es cfg → Shows (all_writes cfg) cfg
Shows-all_writes_colored es cfg shows = record {
  spanned_shown = Shows_after_change (borders.all_writes cfg.spanned) (colors_given cfg.cell_colors) cfg.spanned cfg.spanned (given_changes cfg.cell_colors cfg.spanned) (Shows-all_writes cfg.spanned es shows.spanned_shown);
  cell_colors_shown =
      sym (ap (colors_after None) (filter_map-append cell_color_event (borders.all_writes cfg.spanned) (colors_given cfg.cell_colors) ∙ ap (λ none. none ++ cell_colors_of (colors_given cfg.cell_colors)) (none_in_writes cfg.spanned)) ∙ given_alone cfg.cell_colors);
}

-- one that is new shows what its borders and settings show, and one that was given colors shows that too
pub new_shows : (es : List ConfigEvent) (config : Configuration) → borders.Shows es config → cell_colors_of es ≡ [] → Shows es (record { spanned = config; cell_colors = None })
new_shows es config shows none = record { spanned_shown = shows; cell_colors_shown = sym (ap (colors_after None) none) }

pub given_shows : (es : List ConfigEvent) (config : Configuration) (colors : Live Texts) → borders.Shows es config → Shows (es ++ of_cell_colors (given colors) ∷ []) (record { spanned = config; cell_colors = Some colors })
given_shows es config colors shows = record {
  spanned_shown = Shows_after_change es (colors_given (Some colors)) config config (given_changes (Some colors) config) shows;
  cell_colors_shown = sym (ap (colors_after None) (filter_map-append cell_color_event es (colors_given (Some colors))) ∙ colors_after-append None (cell_colors_of es) (given colors ∷ []));
}

-- one color of cells written or removed
pub Changes_by_cell_color : (event : EntityEvent Texts) (config : Configuration) (before after : Option (Live Texts)) (old : Colored) → record { spanned = config; cell_colors = before } ≡ old → after ≡ colors_after_event before (changed event) → Changes (by_cell_color event) old (record { spanned = config; cell_colors = after })
Changes_by_cell_color event config before after old is made =
    subst (λ cfg. Changes (by_cell_color event) cfg (record { spanned = config; cell_colors = after })) is
    (record {
      spanned_changed = record { characters_changed = Changes-nil (state_at config.characters); colors_changed = Changes-nil (state_at config.colors); settings_changed = refl };
      cell_colors_changed = made;
    })

-- ---- changes that were made through the configuration of the borders, lent

pub Changes_lent : (es fs : List ConfigEvent) (old : Colored) (lent new : Configuration) → lent ≡ old.spanned → fs ≡ es → cell_colors_of es ≡ [] → borders.Changes fs lent new → Changes es old (record old { spanned = new })
Changes_lent es fs old lent new is events none changes =
    Changes_spanned es old (record old { spanned = new }) none refl (subst (λ all. borders.Changes all old.spanned new) events (subst (λ cfg. borders.Changes fs cfg new) is changes))

pub none_in_borders_set : (class : Borders ℕ) → cell_colors_of (borders_set class) ≡ []
unfolding borders_set
none_in_borders_set class = none_by_characters (class_record_set class)

pub none_in_borders_replaced : (class : Borders ℕ) (horizontals : List (ℕ × HorizontalLine ℕ)) (verticals : List (ℕ × VerticalLine ℕ)) → cell_colors_of (borders_replaced class horizontals verticals) ≡ []
unfolding borders_replaced
none_in_borders_replaced class horizontals verticals = none_by_both (erase every_site ∷ horizontal_lines_put horizontals ++ vertical_lines_put verticals ++ class_record_set class) (erase every_site ∷ [])

-- the events of writes of characters alone
pub characters_applied : (characters : List (Write ℕ)) (colors : List (Write Texts)) (es : List (Event ℕ)) → writes_made characters ≡ es → colors ≡ [] → writes_applied characters colors ≡ by_characters es
unfolding writes_applied
characters_applied characters colors es made none =
    (λ i. by_characters (made i) ++ by_colors (nothing_written colors none i)) ∙ append-nil (by_characters es)

pub none_in_entity_bordered : (border : Border ℕ) (shape : ℕ × ℕ) (entity : Entity) → cell_colors_of (entity_bordered border shape entity) ≡ []
unfolding entity_bordered
none_in_entity_bordered border shape entity = none_by_characters (entity_border_set entity shape border)

pub none_in_entity_unbordered : (shape : ℕ × ℕ) (entity : Entity) → cell_colors_of (entity_unbordered shape entity) ≡ []
unfolding entity_unbordered
none_in_entity_unbordered shape entity = none_by_characters (entity_border_erased entity shape)

pub none_in_table_unbordered : (shape : ℕ × ℕ) (class : Borders ℕ) → cell_colors_of (table_unbordered shape class) ≡ []
unfolding table_unbordered
none_in_table_unbordered (rows, cols) class = by_shape ((rows == 0) || (cols == 0))
  where
    by_shape : (empty : Bool) → cell_colors_of (cond empty [] (by_characters (class_record_set (inner_of class) ++ frame_erased (rows, cols)))) ≡ []
    by_shape true = refl
    by_shape false = none_by_characters (class_record_set (inner_of class) ++ frame_erased (rows, cols))

-- Configurations by the events of their stores.
use Rattle.std.proofs.Common.{◌≡◌, ℕ, Option, None, List, [], ◌∷◌, ◌++◌, map, filter_map, refl, sym, ap, subst, ◌∙◌, Result, Ok, Err, OnOk, append-nil, flat_map}
use Rattle.std.specs.List.{cons_option}
use Rattle.std.proofs.lemmas.List.Elements.{filter_map-append}
use Rattle.tabled_object.specs.declared.offset.Offset.{Offset}
use Rattle.tabled_places.specs.declared.site.Direction.TheVariants.{Horizontal, Vertical}
use Rattle.tabled_places.specs.declared.site.Site.{Site}
use Rattle.tabled_places.specs.declared.site.Site.TheVariants.{Default as the_default, Class as of_class, Line as of_line, Cell as at_spot, Offset as at_offset}
use Rattle.tabled_places.specs.declared.borders.Borders.{Borders}
use Rattle.tabled_places.specs.declared.place.LineOf.{LineOf}
use Rattle.tabled_places.specs.declared.writes.Write.{Write}
use Rattle.tabled_places.specs.Event as grid
use Rattle.tabled_places.specs.declared.event.Event.TheVariants.{Erase as erase}
use Rattle.tabled_places.specs.declared.event.Region.TheVariants.{All as every_site, Level as level_sites, Offsets as offset_sites}
use Rattle.tabled_places.specs.declared.event.Event.{Event}
use Rattle.tabled_places.specs.declared.event.Region.{Region}
use Rattle.tabled_places.specs.Writes.{writes_made}
use Rattle.tabled_places.specs.State.{State, state_at, class_record_set, writes_of}
use Rattle.tabled_border.specs.Texts.{Texts}
use Rattle.tabled_places.proofs.Replay.{replay-nil, replay_cleared, Shows_after, Changes-append, Changes-nil, Changes_from_nothing}
use Rattle.tabled_places.specs.Calls.{default_set, lines_erased, offsets_erased}
use Rattle.tabled_places.proofs.Writing.{Shows-writes_of}
use Rattle.tabled_layout.specs.declared.table_settings.TableSettings.{TableSettings}
use Rattle.tabled_object.specs.declared.position.Position.{Position}
use Rattle.tabled_layout.specs.Spans.{SpanMap, after_span, spans_after, calls_for}
use Rattle.tabled_layout.specs.TableSettings.{TableEvent, after_event, settings_after, first_settings, settings_left}
use Rattle.tabled_layout.proofs.LayoutLemmas.{settings_after-append, as_by_what_is_left}
use Rattle.tabled_configuration.specs.Configuration.{Configuration, ConfigEvent, of_characters, of_colors, of_settings, character_event, color_event, setting_event, characters_of, colors_of, settings_of, by_characters, by_colors, by_column_span, by_row_span, writes_applied, all_but_offsets, default_color_set, Shows, Changes, all_writes, borders_set, borders_removed}

-- events of another kind are passed over
pub passed_over : {A B : Type 0} (kind : A → ConfigEvent) (mine : ConfigEvent → Option B) → ((e : A) → mine (kind e) ≡ None) → (es : List A) → filter_map mine (map kind es) ≡ []
passed_over kind mine not_mine [] = refl
passed_over kind mine not_mine (e ∷ es) = ap (λ one. cons_option one (filter_map mine (map kind es))) (not_mine e) ∙ passed_over kind mine not_mine es

-- and so are two lists in a row that are
pub both_passed_over : {B : Type 0} (mine : ConfigEvent → Option B) (es fs : List ConfigEvent) → filter_map mine es ≡ [] → filter_map mine fs ≡ [] → filter_map mine (es ++ fs) ≡ []
both_passed_over mine es fs no_es no_fs = filter_map-append mine es fs ∙ (λ i. no_es i ++ no_fs i)

-- the events of each kind, in lists of one kind and in two lists in a row
pub characters_of-by_characters : (es : List (Event ℕ)) → characters_of (by_characters es) ≡ es
characters_of-by_characters [] = refl
characters_of-by_characters (e ∷ es) = ap (λ rest. e ∷ rest) (characters_of-by_characters es)

colors_of-by_characters : (es : List (Event ℕ)) → colors_of (by_characters es) ≡ []
colors_of-by_characters es = passed_over of_characters color_event (λ e. refl) es

characters_of-by_colors : (es : List (Event Texts)) → characters_of (by_colors es) ≡ []
characters_of-by_colors es = passed_over of_colors character_event (λ e. refl) es

settings_of-by_characters : (es : List (Event ℕ)) → settings_of (by_characters es) ≡ []
settings_of-by_characters es = passed_over of_characters setting_event (λ e. refl) es

settings_of-by_colors : (es : List (Event Texts)) → settings_of (by_colors es) ≡ []
settings_of-by_colors es = passed_over of_colors setting_event (λ e. refl) es

settings_of-both : (es : List (Event ℕ)) (fs : List (Event Texts)) → settings_of (by_characters es ++ by_colors fs) ≡ []
settings_of-both es fs = both_passed_over setting_event (by_characters es) (by_colors fs) (settings_of-by_characters es) (settings_of-by_colors fs)

colors_of-by_colors : (es : List (Event Texts)) → colors_of (by_colors es) ≡ es
colors_of-by_colors [] = refl
colors_of-by_colors (e ∷ es) = ap (λ rest. e ∷ rest) (colors_of-by_colors es)

-- what there is of each kind in the two kinds in a row
pub characters_of-both : (es : List (Event ℕ)) (fs : List (Event Texts)) → characters_of (by_characters es ++ by_colors fs) ≡ es
characters_of-both es fs = filter_map-append character_event (by_characters es) (by_colors fs) ∙ ap (λ rest. characters_of (by_characters es) ++ rest) (characters_of-by_colors fs) ∙ append-nil (characters_of (by_characters es)) ∙ characters_of-by_characters es

pub colors_of-both : (es : List (Event ℕ)) (fs : List (Event Texts)) → colors_of (by_characters es ++ by_colors fs) ≡ fs
colors_of-both es fs = filter_map-append color_event (by_characters es) (by_colors fs) ∙ ap (λ start. start ++ colors_of (by_colors fs)) (colors_of-by_characters es) ∙ colors_of-by_colors fs

-- events that are none of settings leave these
settings_kept : (es : List ConfigEvent) (settings : TableSettings) → settings_of es ≡ [] → settings ≡ settings_after settings (settings_of es)
settings_kept es settings none = sym (ap (settings_after settings) none)

-- a change of the characters alone, and of the colors alone
pub Changes_by_characters : (es : List (Event ℕ)) (before after : State ℕ) (colors : State Texts) (settings : TableSettings) (old : Configuration) → record { characters = before; colors = colors; settings = settings } ≡ old → grid.Changes es (state_at before) (state_at after) → Changes (by_characters es) old (record { characters = after; colors = colors; settings = settings })
Changes_by_characters es before after colors settings old is changes =
    subst (λ cfg. Changes (by_characters es) cfg (record { characters = after; colors = colors; settings = settings })) is (record {
      characters_changed = subst (λ all. grid.Changes all (state_at before) (state_at after)) (sym (characters_of-by_characters es)) changes;
      colors_changed = subst (λ all. grid.Changes all (state_at colors) (state_at colors)) (sym (colors_of-by_characters es)) (Changes-nil (state_at colors));
      settings_changed = settings_kept (by_characters es) settings (settings_of-by_characters es);
    })

pub Changes_by_colors : (es : List (Event Texts)) (characters : State ℕ) (before after : State Texts) (settings : TableSettings) (old : Configuration) → record { characters = characters; colors = before; settings = settings } ≡ old → grid.Changes es (state_at before) (state_at after) → Changes (by_colors es) old (record { characters = characters; colors = after; settings = settings })
Changes_by_colors es characters before after settings old is changes =
    subst (λ cfg. Changes (by_colors es) cfg (record { characters = characters; colors = after; settings = settings })) is (record {
      characters_changed = subst (λ all. grid.Changes all (state_at characters) (state_at characters)) (sym (characters_of-by_colors es)) (Changes-nil (state_at characters));
      colors_changed = subst (λ all. grid.Changes all (state_at before) (state_at after)) (sym (colors_of-by_colors es)) changes;
      settings_changed = settings_kept (by_colors es) settings (settings_of-by_colors es);
    })

-- a change of both
pub Changes_by_both : (es : List (Event ℕ)) (fs : List (Event Texts)) (old new : Configuration) → grid.Changes es (state_at old.characters) (state_at new.characters) → grid.Changes fs (state_at old.colors) (state_at new.colors) → new.settings ≡ old.settings → Changes (by_characters es ++ by_colors fs) old new
Changes_by_both es fs old new of_es of_fs same = record {
  characters_changed = subst (λ all. grid.Changes all (state_at old.characters) (state_at new.characters)) (sym (characters_of-both es fs)) of_es;
  colors_changed = subst (λ all. grid.Changes all (state_at old.colors) (state_at new.colors)) (sym (colors_of-both es fs)) of_fs;
  settings_changed = same ∙ settings_kept (by_characters es ++ by_colors fs) old.settings (settings_of-both es fs);
}

-- one event of settings
pub Changes_by_setting : (e : TableEvent) (characters : State ℕ) (colors : State Texts) (before after : TableSettings) (old : Configuration) → record { characters = characters; colors = colors; settings = before } ≡ old → after ≡ after_event before e → Changes (of_settings e ∷ []) old (record { characters = characters; colors = colors; settings = after })
Changes_by_setting e characters colors before after old is changed =
    subst (λ cfg. Changes (of_settings e ∷ []) cfg (record { characters = characters; colors = colors; settings = after })) is
    (record { characters_changed = Changes-nil (state_at characters); colors_changed = Changes-nil (state_at colors); settings_changed = changed })

-- spans of some cells: nothing is written, and their spans alone change
module _ (columns : ℕ) where
  spans_write_nothing : (cells : List Position) → (characters_of (flat_map (λ cell. by_column_span (cell, columns)) cells) ≡ []) × (colors_of (flat_map (λ cell. by_column_span (cell, columns)) cells) ≡ [])
  spans_write_nothing [] = (refl, refl)
  spans_write_nothing (cell ∷ cells) = spans_write_nothing cells

  spans_made : (cells : List Position) (settings : TableSettings) → settings_after settings (settings_of (flat_map (λ cell. by_column_span (cell, columns)) cells)) ≡ record settings { column_spans = spans_after settings.column_spans (calls_for columns cells) }
  spans_made [] settings = refl
  spans_made (cell ∷ cells) settings = spans_made cells (record settings { column_spans = after_span settings.column_spans (cell, columns) })

  row_spans_write_nothing : (cells : List Position) → (characters_of (flat_map (λ cell. by_row_span (cell, columns)) cells) ≡ []) × (colors_of (flat_map (λ cell. by_row_span (cell, columns)) cells) ≡ [])
  row_spans_write_nothing [] = (refl, refl)
  row_spans_write_nothing (cell ∷ cells) = row_spans_write_nothing cells

  row_spans_made : (cells : List Position) (settings : TableSettings) → settings_after settings (settings_of (flat_map (λ cell. by_row_span (cell, columns)) cells)) ≡ record settings { row_spans = spans_after settings.row_spans (calls_for columns cells) }
  row_spans_made [] settings = refl
  row_spans_made (cell ∷ cells) settings = row_spans_made cells (record settings { row_spans = after_span settings.row_spans (cell, columns) })

settings_alone : (es : List ConfigEvent) (characters : State ℕ) (colors : State Texts) (before after : TableSettings) (old : Configuration) → record { characters = characters; colors = colors; settings = before } ≡ old
    → (characters_of es ≡ []) × (colors_of es ≡ []) → after ≡ settings_after before (settings_of es) → Changes es old (record { characters = characters; colors = colors; settings = after })
settings_alone es characters colors before after old is none changed =
    subst (λ cfg. Changes es cfg (record { characters = characters; colors = colors; settings = after })) is (record {
      characters_changed = subst (λ all. grid.Changes all (state_at characters) (state_at characters)) (sym none.0) (Changes-nil (state_at characters));
      colors_changed = subst (λ all. grid.Changes all (state_at colors) (state_at colors)) (sym none.1) (Changes-nil (state_at colors));
      settings_changed = changed;
    })

pub Changes_by_column_spans : (columns : ℕ) (cells : List Position) (characters : State ℕ) (colors : State Texts) (before : TableSettings) (spans : SpanMap) (old : Configuration) → record { characters = characters; colors = colors; settings = before } ≡ old
    → spans ≡ spans_after before.column_spans (calls_for columns cells) → Changes (flat_map (λ cell. by_column_span (cell, columns)) cells) old (record { characters = characters; colors = colors; settings = record before { column_spans = spans } })
Changes_by_column_spans columns cells characters colors before spans old is made =
    settings_alone (flat_map (λ cell. by_column_span (cell, columns)) cells) characters colors before (record before { column_spans = spans }) old is (spans_write_nothing columns cells)
    ((λ i. record before { column_spans = made i }) ∙ sym (spans_made columns cells before))

pub Changes_by_row_spans : (rows : ℕ) (cells : List Position) (characters : State ℕ) (colors : State Texts) (before : TableSettings) (spans : SpanMap) (old : Configuration) → record { characters = characters; colors = colors; settings = before } ≡ old
    → spans ≡ spans_after before.row_spans (calls_for rows cells) → Changes (flat_map (λ cell. by_row_span (cell, rows)) cells) old (record { characters = characters; colors = colors; settings = record before { row_spans = spans } })
Changes_by_row_spans rows cells characters colors before spans old is made =
    settings_alone (flat_map (λ cell. by_row_span (cell, rows)) cells) characters colors before (record before { row_spans = spans }) old is (row_spans_write_nothing rows cells)
    ((λ i. record before { row_spans = made i }) ∙ sym (row_spans_made rows cells before))

-- two lists of writes made
pub Changes-writes_applied : {A E : Type 0} (result : Result A E) (characters : List (Write ℕ)) (colors : List (Write Texts)) (before after : Configuration) (old : Configuration) → before ≡ old → after.settings ≡ before.settings → OnOk result (grid.Changes (writes_made characters) (state_at before.characters) (state_at after.characters)) → OnOk result (grid.Changes (writes_made colors) (state_at before.colors) (state_at after.colors)) → OnOk result (Changes (writes_applied characters colors) old after)
unfolding writes_applied
Changes-writes_applied (Ok x) characters colors before after old is same first second =
    subst (λ cfg. Changes (writes_applied characters colors) cfg after) is (Changes_by_both (writes_made characters) (writes_made colors) before after first second same)
Changes-writes_applied (Err e) characters colors before after old is same first second = tt

-- the class record set whole
pub Changes-borders_set : (borders : Borders ℕ) (before after : State ℕ) (colors : State Texts) (settings : TableSettings) (old : Configuration) → record { characters = before; colors = colors; settings = settings } ≡ old → grid.Changes (class_record_set borders) (state_at before) (state_at after) → Changes (borders_set borders) old (record { characters = after; colors = colors; settings = settings })
unfolding borders_set
Changes-borders_set borders before after colors settings old is changes = Changes_by_characters (class_record_set borders) before after colors settings old is changes

-- the regions of every level
all_regions : List Region
all_regions = level_sites 0 ∷ level_sites 1 ∷ level_sites 2 ∷ level_sites 3 ∷ level_sites 4 ∷ offset_sites Horizontal ∷ offset_sites Vertical ∷ []

module _ {T : Type 0} where
  -- the erasures of every level
  all_erasures : List (Event T)
  all_erasures = all_but_offsets ++ (erase (offset_sites Horizontal) ∷ []) ++ (erase (offset_sites Vertical) ∷ [])

  -- one erasure after the other
  pub in_turn : (a b c d e : State T) → grid.Changes (erase (level_sites 0) ∷ []) (state_at a) (state_at b) → grid.Changes (erase (level_sites 1) ∷ []) (state_at b) (state_at c) → grid.Changes lines_erased (state_at c) (state_at d) → grid.Changes (erase (level_sites 4) ∷ []) (state_at d) (state_at e) → grid.Changes all_but_offsets (state_at a) (state_at e)
  in_turn a b c d e first second third fourth =
      Changes-append (erase (level_sites 0) ∷ []) (erase (level_sites 1) ∷ lines_erased ++ erase (level_sites 4) ∷ []) (state_at a) (state_at b) (state_at e) first
      (Changes-append (erase (level_sites 1) ∷ []) (lines_erased ++ erase (level_sites 4) ∷ []) (state_at b) (state_at c) (state_at e) second
      (Changes-append lines_erased (erase (level_sites 4) ∷ []) (state_at c) (state_at d) (state_at e) third fourth))

  -- and finally of the offsets
  all_in_turn : (a b c d : State T) → grid.Changes all_but_offsets (state_at a) (state_at b) → grid.Changes (offsets_erased Horizontal) (state_at b) (state_at c) → grid.Changes (offsets_erased Vertical) (state_at c) (state_at d) → grid.Changes all_erasures (state_at a) (state_at d)
  unfolding all_erasures
  all_in_turn a b c d first is_horizontal is_vertical =
      Changes-append all_but_offsets ((erase (offset_sites Horizontal) ∷ []) ++ (erase (offset_sites Vertical) ∷ [])) (state_at a) (state_at b) (state_at d) first
      (Changes-append (erase (offset_sites Horizontal) ∷ []) (erase (offset_sites Vertical) ∷ []) (state_at b) (state_at c) (state_at d) is_horizontal is_vertical)

  -- they leave nothing, and cover every site
  cleared_in_turn : (regions : List Region) (q : Site) → grid.replay {T = T} (map erase regions) q ≡ None
  cleared_in_turn [] q = replay-nil q
  cleared_in_turn (region ∷ rest) q = replay_cleared region (map erase rest) q ∙ cleared_in_turn rest q

  nothing_left : (old new : State T) → grid.Changes all_erasures (state_at old) (state_at new) → (q : Site) → state_at new q ≡ None
  unfolding grid.Changes all_erasures all_regions
  nothing_left old new changes the_default = changes the_default ∙ cleared_in_turn all_regions the_default
  nothing_left old new changes (of_class c) = changes (of_class c) ∙ cleared_in_turn all_regions (of_class c)
  nothing_left old new changes (of_line (LineOf.Horizontal n) p) = changes (of_line (LineOf.Horizontal n) p) ∙ cleared_in_turn all_regions (of_line (LineOf.Horizontal n) p)
  nothing_left old new changes (of_line (LineOf.Vertical n) p) = changes (of_line (LineOf.Vertical n) p) ∙ cleared_in_turn all_regions (of_line (LineOf.Vertical n) p)
  nothing_left old new changes (at_spot s) = changes (at_spot s) ∙ cleared_in_turn all_regions (at_spot s)
  nothing_left old new changes (at_offset Horizontal r c (Offset.End n)) = changes (at_offset Horizontal r c (Offset.End n)) ∙ cleared_in_turn all_regions (at_offset Horizontal r c (Offset.End n))
  nothing_left old new changes (at_offset Vertical r c (Offset.End n)) = changes (at_offset Vertical r c (Offset.End n)) ∙ cleared_in_turn all_regions (at_offset Vertical r c (Offset.End n))
  nothing_left old new changes (at_offset Horizontal r c (Offset.Start n)) = changes (at_offset Horizontal r c (Offset.Start n)) ∙ cleared_in_turn all_regions (at_offset Horizontal r c (Offset.Start n))
  nothing_left old new changes (at_offset Vertical r c (Offset.Start n)) = changes (at_offset Vertical r c (Offset.Start n)) ∙ cleared_in_turn all_regions (at_offset Vertical r c (Offset.Start n))

  -- so they erase every site
  pub everything_erased : (a b c d : State T) → grid.Changes all_but_offsets (state_at a) (state_at b) → grid.Changes (offsets_erased Horizontal) (state_at b) (state_at c) → grid.Changes (offsets_erased Vertical) (state_at c) (state_at d) → grid.Changes (erase every_site ∷ []) (state_at a) (state_at d)
  unfolding grid.Changes
  everything_erased a b c d first is_horizontal is_vertical =
      Changes_from_nothing [] (state_at d) (state_at d) (λ q _. nothing_left a d (all_in_turn a b c d first is_horizontal is_vertical) q) (Changes-nil (state_at d))

-- the default color set, and the class and the cells erased
pub default_color_in_turn : (color : Texts) (a b c d : State Texts) → grid.Changes (default_set color) (state_at a) (state_at b) → grid.Changes (erase (level_sites 1) ∷ []) (state_at b) (state_at c) → grid.Changes (erase (level_sites 4) ∷ []) (state_at c) (state_at d) → grid.Changes (default_color_set color) (state_at a) (state_at d)
default_color_in_turn color a b c d first second third =
    Changes-append (default_set color) ((erase (level_sites 1) ∷ []) ++ (erase (level_sites 4) ∷ [])) (state_at a) (state_at b) (state_at d) first
    (Changes-append (erase (level_sites 1) ∷ []) (erase (level_sites 4) ∷ []) (state_at b) (state_at c) (state_at d) second third)

-- every border removed
pub Changes-borders_removed : (before after : State ℕ) (colors : State Texts) (settings : TableSettings) (old : Configuration) → record { characters = before; colors = colors; settings = settings } ≡ old → grid.Changes all_but_offsets (state_at before) (state_at after) → Changes borders_removed old (record { characters = after; colors = colors; settings = settings })
unfolding borders_removed
Changes-borders_removed before after colors settings old is changes = Changes_by_characters all_but_offsets before after colors settings old is changes

-- the characters and the colors are those of the writes of all that is kept
module _ (cfg : Configuration) where
  bordered : List ConfigEvent
  bordered = by_characters (writes_of cfg.characters) ++ by_colors (writes_of cfg.colors)

  pub characters_of-all_writes : characters_of (all_writes cfg) ≡ writes_of cfg.characters
  unfolding all_writes bordered
  characters_of-all_writes =
      filter_map-append character_event bordered (map of_settings (settings_left cfg.settings))
      ∙ ap (λ rest. characters_of bordered ++ rest) (passed_over of_settings character_event (λ e. refl) (settings_left cfg.settings))
      ∙ append-nil (characters_of bordered) ∙ characters_of-both (writes_of cfg.characters) (writes_of cfg.colors)

  pub colors_of-all_writes : colors_of (all_writes cfg) ≡ writes_of cfg.colors
  unfolding all_writes bordered
  colors_of-all_writes =
      filter_map-append color_event bordered (map of_settings (settings_left cfg.settings))
      ∙ ap (λ rest. colors_of bordered ++ rest) (passed_over of_settings color_event (λ e. refl) (settings_left cfg.settings))
      ∙ append-nil (colors_of bordered) ∙ colors_of-both (writes_of cfg.characters) (writes_of cfg.colors)

  pub settings_of-all_writes : settings_of (all_writes cfg) ≡ settings_left cfg.settings
  unfolding all_writes bordered
  settings_of-all_writes =
      filter_map-append setting_event bordered (map of_settings (settings_left cfg.settings))
      ∙ (λ i. settings_of-both (writes_of cfg.characters) (writes_of cfg.colors) i ++ settings_alone (settings_left cfg.settings) i)
    where
      settings_alone : (es : List TableEvent) → settings_of (map of_settings es) ≡ es
      settings_alone [] = refl
      settings_alone (e ∷ es) = ap (λ rest. e ∷ rest) (settings_alone es)

  pub shown_characters : grid.Shows (characters_of (all_writes cfg)) (state_at cfg.characters)
  shown_characters = subst (λ es. grid.Shows es (state_at cfg.characters)) (sym characters_of-all_writes) (Shows-writes_of cfg.characters)

  pub shown_colors : grid.Shows (colors_of (all_writes cfg)) (state_at cfg.colors)
  shown_colors = subst (λ es. grid.Shows es (state_at cfg.colors)) (sym colors_of-all_writes) (Shows-writes_of cfg.colors)

  -- a configuration that shows some list shows these writes
  pub Shows-all_writes : (es : List ConfigEvent) → Shows es cfg → Shows (all_writes cfg) cfg
  Shows-all_writes es shows = record {
    characters_shown = shown_characters;
    colors_shown = shown_colors;
    settings_shown =
        shows.settings_shown ∙ sym (as_by_what_is_left (settings_of es))
        ∙ ap (λ settings. settings_after first_settings (settings_left settings)) (sym shows.settings_shown)
        ∙ ap (settings_after first_settings) (sym settings_of-all_writes);
  }

-- a list that was shown before a change, followed by its events, is shown after it
pub Shows_after_change : (before es : List ConfigEvent) (old new : Configuration) → Changes es old new → Shows before old → Shows (before ++ es) new
Shows_after_change before es old new changes shows = record {
  characters_shown = subst (λ all. grid.Shows all (state_at new.characters)) (sym (filter_map-append character_event before es)) (Shows_after (characters_of before) (characters_of es) (state_at old.characters) (state_at new.characters) changes.characters_changed shows.characters_shown);
  colors_shown = subst (λ all. grid.Shows all (state_at new.colors)) (sym (filter_map-append color_event before es)) (Shows_after (colors_of before) (colors_of es) (state_at old.colors) (state_at new.colors) changes.colors_changed shows.colors_shown);
  settings_shown =
      changes.settings_changed ∙ ap (λ settings. settings_after settings (settings_of es)) shows.settings_shown
      ∙ sym (settings_after-append first_settings (settings_of before) (settings_of es))
      ∙ ap (settings_after first_settings) (sym (filter_map-append setting_event before es));
}

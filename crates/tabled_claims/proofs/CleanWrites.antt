-- Events that write characters of which none steers, and fill cells with none.
use Rattle.std.proofs.Common.{◌≡◌, ℕ, Bool, true, false, cond, filter_map, unwrap_or, Option, Some, None, List, [], ◌∷◌, ◌++◌, refl, sym, ap, ◌∙◌}
use Rattle.std.specs.Prelude.{option_and_then}
use Rattle.std.specs.List.{last_or, list_all}
use Rattle.std.proofs.lemmas.Bool.{not-true}
use Rattle.std.proofs.lemmas.List.Elements.{filter-append, filter_map-append}
use Rattle.tabled_clean.specs.Steering.{steers}
use Rattle.tabled_object.specs.declared.entity.Entity.{Entity}
use Rattle.tabled_object.specs.declared.position.Position.{Position}
use Rattle.tabled_object.specs.Entities.{covers}
use Rattle.tabled_settings.specs.CellSettings as cells
use Rattle.tabled_settings.specs.CellSettings.{justification_event}
use Rattle.tabled_settings.specs.Live.{value_at}
use Rattle.tabled_settings.specs.Setting.{EntityEvent, covering, setting}
use Rattle.tabled_settings.proofs.SettingsLemmas.{own_setting}
use Rattle.tabled_layout.specs.declared.table_settings.TableSettings.{TableSettings}
use Rattle.tabled_layout.specs.TableSettings.{TableEvent, of_cells, of_margin, of_column_spans, of_row_spans, after_event, cell_event, first_settings, settings_after}
use Rattle.tabled_configuration.specs.Configuration.{ConfigEvent, characters_of, settings_of}
use Rattle.tabled_formatting.specs.Formatting.{Justifying, justification_set}
use Rattle.tabled_measure.specs.Cells.{cells_set}
use Rattle.tabled_claims.specs.Characters.{WritesOnly}
use Rattle.tabled_claims.specs.Clean.{WritesClean, fills_of, is_clean_if_given, is_clean_write, is_quiet}
use Rattle.tabled_claims.proofs.Characters.{drawn_both, settings_both}
use Rattle.tabled_claims.proofs.CleanCharacters.{space_steers}

-- ---- what fills cells, by the events

cells_after : (settings : TableSettings) (events : List TableEvent) → (settings_after settings events).cells ≡ cells.settings_after settings.cells (filter_map cell_event events)
cells_after settings [] = refl
cells_after settings (of_cells e ∷ es) = cells_after (after_event settings (of_cells e)) es
cells_after settings (of_margin e ∷ es) = cells_after (after_event settings (of_margin e)) es
cells_after settings (of_column_spans e ∷ es) = cells_after (after_event settings (of_column_spans e)) es
cells_after settings (of_row_spans e ∷ es) = cells_after (after_event settings (of_row_spans e)) es

filling_is : (events : List ConfigEvent) (position : Position) → value_at (cells_set events).justification position ≡ setting (fills_of events) 32 position
filling_is events position =
    ap (λ settings. value_at settings.justification position) (cells_after first_settings (settings_of events))
    ∙ own_setting justification_event (λ settings. settings.justification) (λ settings event. refl) 32 refl (filter_map cell_event (settings_of events)) position

pub clean_without : (events : List ConfigEvent) → list_all is_clean_write (characters_of events) ≡ true → fills_of events ≡ [] → WritesClean events
clean_without events drawn none = record {
  borders = drawn;
  filling = λ position. ap steers (filling_is events position ∙ ap (λ fills. setting fills 32 position) none) ∙ space_steers;
}

pub clean_only : (events : List ConfigEvent) → WritesOnly is_quiet events → WritesClean events
clean_only events only = clean_without events only.borders (ap (λ settings. filter_map justification_event (filter_map cell_event settings)) only.settings)

-- ---- one list after another

fills_both : (before events : List ConfigEvent) → fills_of (before ++ events) ≡ fills_of before ++ fills_of events
fills_both before events =
    ap (λ settings. filter_map justification_event (filter_map cell_event settings)) (settings_both before events)
    ∙ ap (filter_map justification_event) (filter_map-append cell_event (settings_of before) (settings_of events))
    ∙ filter_map-append justification_event (filter_map cell_event (settings_of before)) (filter_map cell_event (settings_of events))

-- the value of the last event, or of none
abbrev last_value : Option (EntityEvent ℕ) → ℕ
last_value last = unwrap_or (option_and_then (λ event. event.1) last) 32

last-append : (first : Option (EntityEvent ℕ)) (xs ys : List (EntityEvent ℕ)) → last_or first (xs ++ ys) ≡ last_or (last_or first xs) ys
last-append first [] ys = refl
last-append first (x ∷ xs) ys = last-append (Some x) xs ys

last_of_both : (before : Option (EntityEvent ℕ)) (events : List (EntityEvent ℕ)) → steers (last_value before) ≡ false → steers (last_value (last_or None events)) ≡ false → steers (last_value (last_or before events)) ≡ false
last_of_both before [] first second = first
last_of_both before (event ∷ events) first second = second

setting_of_both : (before events : List (EntityEvent ℕ)) (position : Position) → steers (setting before 32 position) ≡ false → steers (setting events 32 position) ≡ false → steers (setting (before ++ events) 32 position) ≡ false
setting_of_both before events position first second =
    ap (λ (covering_both : List (EntityEvent ℕ)). steers (last_value (last_or None covering_both))) (filter-append (λ (event : EntityEvent ℕ). covers event.0 position) before events)
    ∙ ap (λ last. steers (last_value last)) (last-append None (covering before position) (covering events position))
    ∙ last_of_both (last_or None (covering before position)) (covering events position) first second

pub clean_append : (before events : List ConfigEvent) → WritesClean before → WritesClean events → WritesClean (before ++ events)
clean_append before events first second = record {
  borders = drawn_both is_quiet before events first.borders second.borders;
  filling = λ position.
      ap steers (filling_is (before ++ events) position ∙ ap (λ fills. setting fills 32 position) (fills_both before events))
      ∙ setting_of_both (fills_of before) (fills_of events) position
      (ap steers (sym (filling_is before position)) ∙ first.filling position) (ap steers (sym (filling_is events position)) ∙ second.filling position);
}

-- ---- a justification

given_fill : (given : Option ℕ) → is_clean_if_given given ≡ true → steers (unwrap_or given 32) ≡ false
given_fill None h = space_steers
given_fill (Some character) h = not-true (steers character) h

filled_or_space : (b : Bool) (entity : Entity) (character : ℕ) → steers character ≡ false → steers (last_value (last_or None (cond b ((entity, Some character) ∷ []) []))) ≡ false
filled_or_space true entity character quiet = quiet
filled_or_space false entity character quiet = space_steers

pub justification_clean : (given : Justifying) (entity : Entity) → is_clean_if_given given.character ≡ true → WritesClean (justification_set given entity)
justification_clean given entity h = record {
  borders = refl;
  filling = λ position.
      ap steers (filling_is (justification_set given entity) position)
      ∙ filled_or_space (covers entity position) entity (unwrap_or given.character 32) (given_fill given.character h);
}

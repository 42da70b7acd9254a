-- Entities colored, kind by kind.
use Rattle.std.proofs.Common.{◌≡◌, ◌≢◌, ℕ, suc, ◌+◌, ◌<◌, arith, Option, Some, None, List, [], ◌∷◌, ◌++◌, map, length, take, slice_index_or, unwrap_or, refl, sym, ap, subst, ◌∙◌}
use Rattle.std.proofs.Math.Seq.{take-suc}
use Rattle.std.proofs.lemmas.List.{map-append}
use Rattle.tabled_border.specs.Texts.{Texts}
use Rattle.tabled_object.specs.declared.entity.Entity.{Entity}
use Rattle.tabled_places.specs.Event as grid
use Rattle.tabled_places.specs.State.{state_at}
use Rattle.tabled_places.proofs.Replay.{Changes-nil}
use Rattle.tabled_settings.specs.declared.sides.Sides.{Sides}
use Rattle.tabled_layout.specs.declared.table_settings.TableSettings.{TableSettings}
use Rattle.tabled_settings.specs.Setting.{write_of}
use Rattle.tabled_settings.specs.Live.{Live, at_first, after, after_all}
use Rattle.tabled_layout.specs.TableSettings.{settings_after}
use Rattle.tabled_configuration.specs.CellColors.{changed, no_color, colors_after}
use Rattle.tabled_configuration.specs.Configuration.{Configuration, characters_of, colors_of, settings_of, cell_colors_of}
use Rattle.tabled_configuration.specs.Colored.{Colored, Changes}
use Rattle.tabled_changes.specs.EntitiesColored.{all_around, entities_colored, text_writes, fill_writes, padding_writes}
use Rattle.tabled_changes.proofs.ColorsLemmas.{with_map}

-- one write of a list more
next_number : (i : ℕ) → i + 1 ≡ suc i
next_number i = omega arith

pub one_write : {A X : Type 0} (write : X → A) (list : List X) (i : ℕ) (d : X) (events new : List A) → i < length list → events ≡ map write (take i list) → new ≡ events ++ write (slice_index_or list i d) ∷ [] → new ≡ map write (take (i + 1) list)
one_write write list i d events new here made is =
    is ∙ ap (λ all. all ++ write (slice_index_or list i d) ∷ []) made
    ∙ sym (ap (λ n. map write (take n list)) (next_number i) ∙ ap (map write) (take-suc list i d here) ∙ map-append write (take i list) (slice_index_or list i d ∷ []))

-- the colors of texts begin with the first that is written
pub texts_written : (colors : Option (Live Texts)) (list : List (Entity × Texts)) → list ≢ [] → Some (after_all (unwrap_or colors (at_first no_color)) (text_writes list)) ≡ colors_after colors (map changed (text_writes list))
texts_written (Some live) list some = sym (with_map live (text_writes list))
texts_written None [] some = absurd (some refl)
texts_written None (colored ∷ list) some = sym (with_map (after (at_first no_color) (write_of colored.0 colored.1)) (text_writes list))

-- ---- the events of each kind

no_characters : (list : List (Entity × Texts)) → characters_of (entities_colored list) ≡ []
unfolding entities_colored
no_characters [] = refl
no_characters (colored ∷ list) = no_characters list

no_border_colors : (list : List (Entity × Texts)) → colors_of (entities_colored list) ≡ []
unfolding entities_colored
no_border_colors [] = refl
no_border_colors (colored ∷ list) = no_border_colors list

texts_colored : (list : List (Entity × Texts)) → cell_colors_of (entities_colored list) ≡ map changed (text_writes list)
unfolding entities_colored
texts_colored [] = refl
texts_colored (colored ∷ list) = ap (λ rest. changed (write_of colored.0 colored.1) ∷ rest) (texts_colored list)

settings_colored : (settings : TableSettings) (list : List (Entity × Texts)) → settings_after settings (settings_of (entities_colored list)) ≡ record settings { cells = record settings.cells { justification_color = after_all settings.cells.justification_color (fill_writes list); padding_color = after_all settings.cells.padding_color (padding_writes list) } }
unfolding entities_colored
settings_colored settings [] = refl
settings_colored settings (colored ∷ list) =
    settings_colored (record settings {
      cells = record settings.cells {
        justification_color = after settings.cells.justification_color (write_of colored.0 (Some colored.1));
        padding_color = after settings.cells.padding_color (write_of colored.0 (all_around colored.1));
      };
    }) list

-- ---- all at once

pub Changes-entities_colored : (list : List (Entity × Texts)) (old : Colored) (texts : Option (Live Texts)) (fills : Live (Option Texts)) (paddings : Live (Sides (Option Texts))) → texts ≡ colors_after old.cell_colors (map changed (text_writes list)) → fills ≡ after_all old.spanned.settings.cells.justification_color (fill_writes list) → paddings ≡ after_all old.spanned.settings.cells.padding_color (padding_writes list) → Changes (entities_colored list) old (record { spanned = record old.spanned { settings = record old.spanned.settings { cells = record old.spanned.settings.cells { justification_color = fills; padding_color = paddings } } }; cell_colors = texts })
Changes-entities_colored list old texts fills paddings by_texts by_fills by_paddings = record {
  spanned_changed = record {
    characters_changed = subst (λ es. grid.Changes es (state_at old.spanned.characters) (state_at old.spanned.characters)) (sym (no_characters list)) (Changes-nil (state_at old.spanned.characters));
    colors_changed = subst (λ es. grid.Changes es (state_at old.spanned.colors) (state_at old.spanned.colors)) (sym (no_border_colors list)) (Changes-nil (state_at old.spanned.colors));
    settings_changed = (λ i. record old.spanned.settings { cells = record old.spanned.settings.cells { justification_color = by_fills i; padding_color = by_paddings i } }) ∙ sym (settings_colored old.spanned.settings list);
  };
  cell_colors_changed = by_texts ∙ sym (ap (colors_after old.cell_colors) (texts_colored list));
}

-- a list without entities
pub Changes-none_colored : (list : List (Entity × Texts)) (old : Colored) → list ≡ [] → Changes (entities_colored list) old old
Changes-none_colored list old none =
    let P : List (Entity × Texts) → Type 0 = λ list. Changes (entities_colored list) old old in
    subst P (sym none) (Changes-entities_colored [] old old.cell_colors old.spanned.settings.cells.justification_color old.spanned.settings.cells.padding_color refl refl refl)

-- the parts put in place
pub Changes_by_parts : (list : List (Entity × Texts)) (config new : Configuration) (colors texts : Option (Live Texts)) (fills : Live (Option Texts)) (paddings : Live (Sides (Option Texts))) (old : Colored) → record { spanned = config; cell_colors = colors } ≡ old → texts ≡ colors_after colors (map changed (text_writes list))
    → fills ≡ after_all config.settings.cells.justification_color (fill_writes list) → paddings ≡ after_all config.settings.cells.padding_color (padding_writes list)
    → new ≡ record config { settings = record config.settings { cells = record config.settings.cells { justification_color = fills; padding_color = paddings } } } → Changes (entities_colored list) old (record { spanned = new; cell_colors = texts })
Changes_by_parts list config new colors texts fills paddings old is by_texts by_fills by_paddings made =
    subst (λ cfg. Changes (entities_colored list) cfg (record { spanned = new; cell_colors = texts })) is
    (subst (λ spanned. Changes (entities_colored list) (record { spanned = config; cell_colors = colors }) (record { spanned = spanned; cell_colors = texts })) (sym made)
    (Changes-entities_colored list (record { spanned = config; cell_colors = colors }) texts fills paddings by_texts by_fills by_paddings))

-- Alignments of entities set in a row.
use Rattle.std.proofs.Common.{◌≡◌, ℕ, List, [], ◌∷◌, refl, sym, subst, ◌∙◌}
use Rattle.tabled_border.specs.Texts.{Texts}
use Rattle.tabled_places.specs.Event as grid
use Rattle.tabled_places.specs.State.{State, state_at}
use Rattle.tabled_places.proofs.Replay.{Changes-nil}
use Rattle.tabled_settings.specs.declared.alignment.AlignmentHorizontal.{AlignmentHorizontal}
use Rattle.tabled_settings.specs.Live.{Live, after, after_all}
use Rattle.tabled_settings.specs.Setting.{EntityEvent}
use Rattle.tabled_layout.specs.declared.table_settings.TableSettings.{TableSettings}
use Rattle.tabled_layout.specs.TableSettings.{settings_after}
use Rattle.tabled_configuration.specs.Configuration.{Configuration, Changes, characters_of, colors_of, settings_of}
use Rattle.tabled_configuration.specs.EntitiesAligned.{entities_aligned}

no_characters : (list : List (EntityEvent AlignmentHorizontal)) → characters_of (entities_aligned list) ≡ []
unfolding entities_aligned
no_characters [] = refl
no_characters (event ∷ list) = no_characters list

no_colors : (list : List (EntityEvent AlignmentHorizontal)) → colors_of (entities_aligned list) ≡ []
unfolding entities_aligned
no_colors [] = refl
no_colors (event ∷ list) = no_colors list

aligned : (settings : TableSettings) (list : List (EntityEvent AlignmentHorizontal)) → settings_after settings (settings_of (entities_aligned list)) ≡ record settings { cells = record settings.cells { alignment_horizontal = after_all settings.cells.alignment_horizontal list } }
unfolding entities_aligned
aligned settings [] = refl
aligned settings (event ∷ list) = aligned (record settings { cells = record settings.cells { alignment_horizontal = after settings.cells.alignment_horizontal event } }) list

pub Changes_by_list : (list : List (EntityEvent AlignmentHorizontal)) (characters : State ℕ) (colors : State Texts) (before : TableSettings) (live : Live AlignmentHorizontal) (old : Configuration) → record { characters = characters; colors = colors; settings = before } ≡ old → live ≡ after_all before.cells.alignment_horizontal list
    → Changes (entities_aligned list) old (record { characters = characters; colors = colors; settings = record before { cells = record before.cells { alignment_horizontal = live } } })
Changes_by_list list characters colors before live old is made =
    subst (λ cfg. Changes (entities_aligned list) cfg (record { characters = characters; colors = colors; settings = record before { cells = record before.cells { alignment_horizontal = live } } })) is
    (record {
      characters_changed = subst (λ es. grid.Changes es (state_at characters) (state_at characters)) (sym (no_characters list)) (Changes-nil (state_at characters));
      colors_changed = subst (λ es. grid.Changes es (state_at colors) (state_at colors)) (sym (no_colors list)) (Changes-nil (state_at colors));
      settings_changed = (λ i. record before { cells = record before.cells { alignment_horizontal = made i } }) ∙ sym (aligned before list);
    })

-- Two settings changed at once.
use Rattle.std.proofs.Common.{◌≡◌, ℕ, ◌++◌, subst, Result, Ok, Err, OnOk}
use Rattle.tabled_border.specs.Texts.{Texts}
use Rattle.tabled_places.specs.State.{State, state_at}
use Rattle.tabled_places.proofs.Replay.{Changes-nil}
use Rattle.tabled_settings.specs.CellSettings.{SettingEvent}
use Rattle.tabled_layout.specs.declared.table_settings.TableSettings.{TableSettings}
use Rattle.tabled_layout.specs.TableSettings.{of_cells, after_event}
use Rattle.tabled_configuration.specs.Configuration.{Configuration, Changes, by_setting}

-- what follows from two facts of a result that is no refusal
pub on_both : {A E P Q R : Type 0} (result : Result A E) → (P → Q → R) → OnOk result P → OnOk result Q → OnOk result R
on_both (Ok x) from p q = from p q
on_both (Err e) from p q = tt

pub Changes_by_two : (e f : SettingEvent) (characters : State ℕ) (colors : State Texts) (before after : TableSettings) (old : Configuration) → record { characters = characters; colors = colors; settings = before } ≡ old → after ≡ after_event (after_event before (of_cells e)) (of_cells f) → Changes (by_setting e ++ by_setting f) old (record { characters = characters; colors = colors; settings = after })
Changes_by_two e f characters colors before after old is changed =
    subst (λ cfg. Changes (by_setting e ++ by_setting f) cfg (record { characters = characters; colors = colors; settings = after })) is
    (record { characters_changed = Changes-nil (state_at characters); colors_changed = Changes-nil (state_at colors); settings_changed = changed })

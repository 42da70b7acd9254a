-- Events that are made a second time in a row.
use Rattle.std.proofs.Common.{◌≡◌, List, [], ap, ◌∙◌}
use Rattle.tabled_places.specs.Event as grid
use Rattle.tabled_places.specs.declared.event.Event.{Event}
use Rattle.tabled_places.specs.State.{State, state_at}
use Rattle.tabled_places.proofs.PuttingBack.{same_state}
use Rattle.tabled_places.proofs.Leaving.{second_time}
use Rattle.tabled_layout.specs.TableSettings.{settings_after}
use Rattle.tabled_configuration.specs.CellColors.{colors_after}
use Rattle.tabled_configuration.specs.Configuration as borders
use Rattle.tabled_configuration.specs.Configuration.{Configuration, ConfigEvent, characters_of, colors_of, settings_of, cell_colors_of}
use Rattle.tabled_configuration.specs.Colored.{Colored, Changes}

same_store : {T : Type 0} (es : List (Event T)) (old between new : State T) → grid.Changes es (state_at old) (state_at between) → grid.Changes es (state_at between) (state_at new) → new ≡ between
same_store es old between new first again = same_state new between (second_time es (state_at old) (state_at between) (state_at new) first again)

pub same_borders : (es : List ConfigEvent) (old between new : Configuration) → borders.Changes es old between → borders.Changes es between new → (new.characters ≡ between.characters) × (new.colors ≡ between.colors)
same_borders es old between new first again = (
  same_store (characters_of es) old.characters between.characters new.characters first.characters_changed again.characters_changed,
  same_store (colors_of es) old.colors between.colors new.colors first.colors_changed again.colors_changed,
)

pub same_configuration : (es : List ConfigEvent) (old between new : Configuration) → settings_of es ≡ [] → borders.Changes es old between → borders.Changes es between new → new ≡ between
same_configuration es old between new none first again =
    let both = same_borders es old between new first again in
    let settings : new.settings ≡ between.settings = again.settings_changed ∙ ap (settings_after between.settings) none in
    λ i. record { characters = both.0 i; colors = both.1 i; settings = settings i }

pub same_colored : (es : List ConfigEvent) (old between new : Colored) → settings_of es ≡ [] → cell_colors_of es ≡ [] → Changes es old between → Changes es between new → new ≡ between
same_colored es old between new none no_colors first again =
    let spanned = same_configuration es old.spanned between.spanned new.spanned none first.spanned_changed again.spanned_changed in
    let colors : new.cell_colors ≡ between.cell_colors = again.cell_colors_changed ∙ ap (colors_after between.cell_colors) no_colors in
    λ i. record { spanned = spanned i; cell_colors = colors i }

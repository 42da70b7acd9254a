-- Events of borders set nothing for cells and for the table.
use Rattle.std.proofs.Common.{◌≡◌, ℕ, List, [], ◌∷◌, ◌++◌, refl}
use Rattle.tabled_border.specs.Texts.{Texts}
use Rattle.tabled_places.specs.declared.event.Event.{Event}
use Rattle.tabled_configuration.specs.Configuration.{settings_of, by_characters, by_colors}

no_settings_of_colors : (fs : List (Event Texts)) → settings_of (by_colors fs) ≡ []
no_settings_of_colors [] = refl
no_settings_of_colors (f ∷ fs) = no_settings_of_colors fs

pub no_settings : (es : List (Event ℕ)) (fs : List (Event Texts)) → settings_of (by_characters es ++ by_colors fs) ≡ []
no_settings [] fs = no_settings_of_colors fs
no_settings (e ∷ es) fs = no_settings es fs

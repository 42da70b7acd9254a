-- What stands beside rows, and what is kept of it.
use Rattle.std.specs.Prelude.{ℕ, Bool, if◌then◌else◌, Option, Some, None, List, [], ◌∷◌}
use Rattle.tabled_places.specs.declared.place.Place.{Place}
use Rattle.tabled_places.specs.declared.place.LineOf.{LineOf}
use Rattle.tabled_places.specs.Drawn.{drawn}
use Rattle.tabled_places.specs.State.{state_at}
use Rattle.tabled_places.specs.Value.{plain_value}
use Rattle.tabled_configuration.specs.Configuration.{Configuration, all_writes, characters_of}
use Rattle.tabled_printing.specs.Picture.{Look, Shown, mark_at}

-- what vertical line c shows at one line of text of row r, if it is drawn
abbrev pub mark_beside : Look → ℕ → ℕ → ℕ → Option Shown
mark_beside view r k c = if view.vertical c then Some (mark_at view (Place.Vertical r c k)) else None

-- a mark for the crossing with vertical line c, if that is drawn
abbrev pub mark_if_drawn : Look → ℕ → Shown → List Shown
mark_if_drawn view c mark = if view.vertical c then mark ∷ [] else []

-- what a configuration keeps for a place without its offsets, with its color if that is wanted
abbrev pub plain_mark : Configuration → Bool → ℕ × ℕ → Place → Shown
plain_mark cfg wanted shape place = (plain_value (state_at cfg.characters) shape place, if wanted then plain_value (state_at cfg.colors) shape place else None)

-- what it keeps for vertical line c beside the first row, if that is drawn
abbrev pub plain_side : Configuration → Bool → ℕ × ℕ → ℕ → Option Shown
plain_side cfg wanted shape c = if drawn (characters_of (all_writes cfg)) shape.1 (LineOf.Vertical c) then Some (plain_mark cfg wanted shape (Place.Vertical 0 c 0)) else None

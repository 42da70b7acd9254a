-- How the picture of a correction is kept: the configuration as it was, and the crossings that were written since. Private
-- functions alone cite this.
use Rattle.std.specs.Prelude.{ℕ}
use Rattle.std.specs.BTreeMap.{BTreeMap, get}
use Rattle.std.specs.Option.{option_or}
use Rattle.tabled_object.specs.declared.position.Position.{Position}
use Rattle.tabled_object.specs.Entities.{position}
use Rattle.tabled_places.specs.declared.place.Place.{Place}
use Rattle.tabled_layout.specs.Spans.{position_cmp}
use Rattle.tabled_correction.specs.Correction.{PlaceCharacters, Spanned, spanned}
use Rattle.tabled_correction.specs.declared.picture.Picture.{Picture}

-- crossings of a map in place of what was shown
abbrev pub shown_through : BTreeMap Position ℕ → PlaceCharacters → PlaceCharacters
shown_through written shown (Place.Cross r c) = option_or (get position_cmp written (position r c)) (shown (Place.Cross r c))
shown_through written shown place = shown place

abbrev pub pictured : Picture → Spanned
pictured picture =
    let table : Spanned = spanned picture.shape picture.cfg.now in
    record table { shown = shown_through picture.written table.shown }

-- How a pen goes along places. Only private calls cite this.
use Rattle.std.specs.Prelude.{◌≡◌, ◌-◌, List, ◌++◌, length, drop, zip}
use Rattle.tabled_places.specs.declared.place.Place.{Place}
use Rattle.tabled_options.specs.declared.pen.Pen.{Pen}

-- after it went along these places, the pen has passed over as many as it still had to, and laid its characters on the
-- others, as far as it had any
pub record Passed (places : List Place) (old new : Pen) : Type 0 where
  pub passed_over : new.skip ≡ old.skip - length places
  pub left : new.letters.now ≡ drop (length places - old.skip) old.letters.now
  pub laid : new.taken.items ≡ old.taken.items ++ zip (drop old.skip places) old.letters.now

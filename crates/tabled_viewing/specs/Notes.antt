-- What is said beside a table that is shown.
use Rattle.std.specs.Prelude.{ℕ, ◌-◌, ◌^◌, false, min, nat_lt, if◌then◌else◌, List, Option, Some, None}
use Rattle.tabled_configuration.specs.Configuration.{ConfigEvent}
use Rattle.tabled_request.specs.declared.request.Request.{Request}
use Rattle.tabled_request.specs.declared.surroundings.Surroundings.{Surroundings}
use Rattle.tabled_text.specs.Fitted.{least_width}
use Rattle.tabled_width.specs.Texts.{Table}
use Rattle.tabled_viewing.specs.Asked.{lacks_color, width_asked}
use Rattle.tabled_viewing.specs.declared.notes.Notes.{Notes}

abbrev pub no_notes : Notes
no_notes = record { too_wide = None; lacks_color = false }

-- the number of columns that a table is asked to stay within, where it takes more: each of its columns has all that its texts ask for
abbrev pub width_missed : Option ℕ → List ConfigEvent → Table → Option ℕ
width_missed None events table = None
width_missed (Some width) events table = if nat_lt width (min (least_width (2 ^ 64 - 1) events table) (2 ^ 64 - 1)) then Some width else None

abbrev pub notes_of : Request → Surroundings → List ConfigEvent → Table → Notes
notes_of request around events table = record { too_wide = width_missed (width_asked request around) events table; lacks_color = lacks_color request around }

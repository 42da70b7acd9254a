-- What was shown before a call, followed by the events of the call, is shown after it.
use Rattle.std.proofs.Common.{List, ◌++◌, Option, Result, OnOk}
use Rattle.tabled_places.specs.declared.event.Event.{Event}
use Rattle.tabled_places.specs.declared.event.Written.{Written}
use Rattle.tabled_places.specs.declared.site.Site.{Site}
use Rattle.tabled_places.specs.Event.{Shows, Changes}
use Rattle.tabled_places.proofs.Replay.{Shows_after}
use Rattle.tabled_grid.proofs.Seen.{on_ok}

pub shown_next : {T : Type 0} (before es : List (Event T)) (old new : Site → Option (Written T)) → Shows before old → Changes es old new → Shows (before ++ es) new
shown_next before es old new shows changes = Shows_after before es old new changes shows

pub shown_then : {T A E : Type 0} (result : Result A E) (before es : List (Event T)) (old new : Site → Option (Written T))
    → Shows before old → OnOk result (Changes es old new) → OnOk result (Shows (before ++ es) new)
shown_then result before es old new shows changed = on_ok result (shown_next before es old new shows) changed

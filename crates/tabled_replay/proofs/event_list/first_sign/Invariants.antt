use Rattle.std.proofs.Common.{◌≡◌, drop}
use Rattle.tabled_places.specs.Event.{replay}
use Rattle.tabled_places.specs.Value.{first_sign}
use Rattle.tabled_replay.proofs.event_list.first_sign.Given as goal

abbrev pub invariant-loop-site : goal.invariant-loop-site
invariant-loop-site l =
    first_sign (replay l.events) l.sites
    ≡ first_sign (replay l.events) (drop l.site-index l.sites)

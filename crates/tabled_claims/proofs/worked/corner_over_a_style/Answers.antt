-- What the two options leave at the crossing.
use Rattle.std.proofs.Common.{[], refl, sym, subst}
use Rattle.tabled_object.specs.Entities.{rectangle}
use Rattle.tabled_places.specs.Calls.{borders_of, places_set}
use Rattle.tabled_places.specs.Event.{replay}
use Rattle.tabled_places.specs.State.{class_record_set, class_writes, classes}
use Rattle.tabled_places.specs.Value.{value}
use Rattle.tabled_configuration.specs.Colored.{Shows}
use Rattle.tabled_configuration.specs.Configuration.{borders_replaced, horizontal_lines_put, vertical_lines_put}
use Rattle.tabled_configuration.specs.Options.{entity_bordered}
use Rattle.tabled_changes.proofs.ColoredLemmas.{new_shows}
use Rattle.tabled_style.specs.Ready.{ascii}
use Rattle.tabled_claims.proofs.worked.corner_over_a_style.Goals as goal

pub returns : goal.returns
unfolding value replay ascii borders_replaced horizontal_lines_put vertical_lines_put class_record_set class_writes classes entity_bordered borders_of places_set rectangle
returns c =
    let shows = subst (λ cfg. Shows [] cfg) (sym c.new-cfg.ensures) (new_shows [] c.new.result c.new.ensures refl) in
    c.shown_in_the_middle-shown.ensures _ _ (c.new-cfg.result, shows, c.in_ok-applied.ensures)

-- What a table shows after a style.
use Rattle.std.specs.Prelude.{ℕ, List, ◌++◌}
use Rattle.tabled_places.specs.declared.event.Event.{Event}
use Rattle.tabled_places.specs.State.{class_record_set}
use Rattle.tabled_configuration.specs.Configuration.{horizontal_lines_put, vertical_lines_put}
use Rattle.tabled_style.specs.Shown.{StyleShown}

-- all that a style writes: its custom lines at their indices, in their order, and its class record
unfoldable pub written_by : StyleShown → List (Event ℕ)
written_by style =
    horizontal_lines_put style.horizontals ++ vertical_lines_put style.verticals ++ class_record_set style.borders

-- Which cells of a table are chosen, asked one by one.
use Rattle.std.specs.Prelude.{◌&&◌, Bool, true, not}
use Rattle.tabled_object.specs.declared.object.chosen.CellTest.{CellTest}
use Rattle.tabled_object.specs.declared.object.chosen.CellTest.TheVariants.{All, Frame, Intersection, Difference}
use Rattle.tabled_object.specs.declared.position.Position.{Position}
use Rattle.tabled_object.specs.Listing.{covered, is_outermost}

-- whether a cell passes a test: each one does, or the outermost ones, or those that two sets of entities cover, or the one covers and the other does not
abbrev pub passes : CellTest → Position → Bool
passes All cell = true
passes (Frame rows cols) cell = is_outermost rows cols cell
passes (Intersection one other) cell = covered one.keys cell && covered other.keys cell
passes (Difference kept left_out) cell = covered kept.keys cell && not (covered left_out.keys cell)

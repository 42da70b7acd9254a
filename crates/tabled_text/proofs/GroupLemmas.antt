-- Lines between groups, and cells that become one, color no cell.
use Rattle.std.proofs.Common.{◌≡◌, ℕ, List, [], Bool, true, false, refl, Result, Ok, Err}
use Rattle.std.specs.Prelude.{OnErr}
use Rattle.tabled_object.specs.declared.position.Position.{Position}
use Rattle.tabled_places.specs.Calls.{line_set_horizontal}
use Rattle.tabled_places.specs.declared.lines.HorizontalLine.{HorizontalLine}
use Rattle.tabled_changes.proofs.ColoredLemmas.{none_by_characters}
use Rattle.tabled_configuration.specs.Configuration.{by_characters, cell_colors_of}
use Rattle.tabled_measure.proofs.InTurn.{none_colored}
use Rattle.tabled_measure.specs.Runs.{merged, spanned_by}
use Rattle.tabled_text.specs.Groups.{lines_above}

pub none_by_lines : (line : HorizontalLine ℕ) (rows : List ℕ) → cell_colors_of (lines_above line rows) ≡ []
none_by_lines line = none_colored (λ row. by_characters (line_set_horizontal row line)) (λ row. none_by_characters (line_set_horizontal row line))

none_by_span : (down : Bool) (run : Position × ℕ) → cell_colors_of (spanned_by down run) ≡ []
none_by_span true run = refl
none_by_span false run = refl

pub none_by_runs : (down : Bool) (runs : List (Position × ℕ)) → cell_colors_of (merged down runs) ≡ []
none_by_runs down = none_colored (spanned_by down) (none_by_span down)

-- what a refusal leaves, whatever refused
pub refused_with : {A E P : Type 0} (r : Result A E) → P → OnErr r P
refused_with (Ok x) left = tt
refused_with (Err e) left = left

-- Marks and runs as values.
use Rattle.std.specs.Prelude.{List, map, option_copied}
use Rattle.std.specs.List.{flat_map}
use Rattle.tabled_object.specs.Entities.{below}
use Rattle.tabled_printing.specs.declared.mark.Mark.{Mark}
use Rattle.tabled_printing.specs.declared.mark.Run.{Run}
use Rattle.tabled_printing.specs.Picture.{Shown}

-- what a mark says
abbrev pub mark_of : Mark → Shown
mark_of mark = (mark.shown, option_copied mark.color)

-- the marks of a run, all alike, and those of runs in a row
abbrev pub run_marks : Run → List Shown
run_marks run = map (λ _. mark_of run.mark) (below run.count)

abbrev pub marks_of : List Run → List Shown
marks_of runs = flat_map run_marks runs

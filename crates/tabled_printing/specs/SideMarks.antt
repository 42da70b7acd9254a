-- The marks of vertical lines, one by one or by rank.
use Rattle.std.specs.Prelude.{◌≡◌, ℕ, ◌==◌, if◌then◌else◌, Bool, true, Option, None, length, slice_index_or}
use Rattle.tabled_configuration.specs.Configuration.{Configuration}
use Rattle.tabled_printing.specs.declared.sides.RowSide.{RowSide}
use Rattle.tabled_printing.specs.declared.sides.SideMarks.{SideMarks}
use Rattle.tabled_printing.specs.declared.sides.SideMarks.TheVariants.{ByRank, Each}
use Rattle.tabled_printing.specs.Alike.{NoneBeside}
use Rattle.tabled_printing.specs.Marks.{mark_of}
use Rattle.tabled_printing.specs.Picture.{Shown}

-- of lines 0 to `last` line c has its own mark, or that of the first one, of those between, or of the last one
abbrev pub mark_kept : ℕ → SideMarks → ℕ → Option RowSide
mark_kept last (ByRank first inner end) c = if c == 0 then first else if c == last then end else inner
mark_kept last (Each marks) c = slice_index_or marks.items c None

-- how many there are of that many lines, counted where each line has its own
abbrev pub mark_count : ℕ → SideMarks → ℕ
mark_count lines (ByRank first inner end) = lines
mark_count lines (Each marks) = length marks.items

-- what a line shows beside the first row
abbrev pub side_mark : RowSide → Shown
side_mark side = mark_of side.mark

-- where line c is said to look alike beside all of that many rows, nothing is kept for an edge of it by itself
abbrev pub IsAlikeSide : Configuration → Bool → ℕ → ℕ → RowSide → Type 0
IsAlikeSide cfg wanted rows c side = side.is_alike ≡ true → NoneBeside cfg wanted rows c

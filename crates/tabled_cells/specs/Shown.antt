-- The lines that are had of a text, and how wide they are as one.
use Rattle.std.specs.Prelude.{◌≡◌, ◌≢◌, ℕ, false, List, map}
use Rattle.tabled_settings.specs.declared.alignment.AlignmentHorizontal.{AlignmentHorizontal as Side}
use Rattle.tabled_width.specs.Texts.{pieces, width_of_text}
use Rattle.tabled_cells.specs.declared.placement.Placement.{Placement}
use Rattle.tabled_cells.specs.declared.shown_lines.ShownLines.{ShownLines}
use Rattle.tabled_cells.specs.Placed.{greatest}
use Rattle.tabled_cells.specs.Trimmed.{first_lines}

-- the lines: so many of the text's, each as it is shown
unfoldable pub shown : ShownLines → List (List ℕ)
shown lines = first_lines lines.trims lines.count (pieces lines.text.now)

-- the widest line is known, where the lines are aligned as one, and not at the left
abbrev pub KnowsWidest : Placement → ShownLines → Type 0
KnowsWidest how lines = how.line_alignment ≡ false → how.alignment_horizontal ≢ Side.Left → lines.widest ≡ greatest (map width_of_text (shown lines))

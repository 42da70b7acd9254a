-- Which alignments stand between which sides.
use Rattle.std.specs.Prelude.{Option, Some, None}
use Rattle.tabled_settings.specs.declared.alignment.AlignmentHorizontal.{AlignmentHorizontal}
use Rattle.tabled_settings.specs.declared.alignment.AlignmentVertical.{AlignmentVertical}
use Rattle.tabled_formatting.specs.declared.alignment.Alignment.{Alignment}

-- the alignment between the left and the right side, and that between the upper and the lower one
abbrev pub horizontal_of : Alignment → Option AlignmentHorizontal
horizontal_of (Alignment.Horizontal alignment) = Some alignment
horizontal_of (Alignment.Vertical alignment) = None

abbrev pub vertical_of : Alignment → Option AlignmentVertical
vertical_of (Alignment.Horizontal alignment) = None
vertical_of (Alignment.Vertical alignment) = Some alignment

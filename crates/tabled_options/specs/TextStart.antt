-- Where a text begins on a line of the given number of places.
use Rattle.std.specs.Prelude.{ℕ, ◌+◌, ◌-◌, ◌/◌, nat_lt, nat_le, if◌then◌else◌, max, fold, Option, Some, None, option_map, option_and_then, List, take, length, encode_utf8_all}
use Rattle.tabled_settings.specs.declared.alignment.AlignmentHorizontal.{AlignmentHorizontal}
use Rattle.tabled_settings.specs.declared.alignment.AlignmentVertical.{AlignmentVertical}
use Rattle.tabled_object.specs.declared.offset.Offset.{Offset}
use Rattle.tabled_places.specs.declared.place.LineOf.{LineOf}
use Rattle.tabled_width.specs.Texts.{pieces, width_of_text}
use Rattle.tabled_formatting.specs.declared.alignment.Alignment.{Alignment}
use Rattle.tabled_formatting.specs.Alignment.{horizontal_of, vertical_of}

-- the characters of a text that count: the first ones, where there is a limit
abbrev pub limited : Option ℕ → List ℕ → List ℕ
limited None letters = letters
limited (Some n) letters = take n letters

-- how many terminal columns the bytes of a text take: as many as the widest of its pieces between line feeds
abbrev pub widest : List ℕ → ℕ
widest text = fold (λ most piece. max most (width_of_text piece)) 0 (pieces text)

abbrev pub width_of : List ℕ → ℕ
width_of letters = widest (encode_utf8_all letters)

-- where something of the given width begins that stands in the middle of the given number of places
abbrev pub middle : ℕ → ℕ → ℕ
middle total width = if nat_lt width total then total / 2 - width / 2 else 0

-- the offset by which an alignment puts a text on a line of `total` places. A text on a horizontal line counts by its width,
-- one on a vertical line by its width in the middle, and by its number of characters at the bottom
abbrev pub horizontal_offset : ℕ → ℕ → AlignmentHorizontal → Offset
horizontal_offset total width AlignmentHorizontal.Left = Offset.Start 0
horizontal_offset total width AlignmentHorizontal.Center = Offset.Start (middle total width)
horizontal_offset total width AlignmentHorizontal.Right = Offset.End width

abbrev pub vertical_offset : ℕ → ℕ → ℕ → AlignmentVertical → Offset
vertical_offset total width count AlignmentVertical.Top = Offset.Start 0
vertical_offset total width count AlignmentVertical.Center = Offset.Start (middle total width)
vertical_offset total width count AlignmentVertical.Bottom = Offset.End count

-- the same for an alignment along the line; one of the other direction puts it nowhere
abbrev pub aligned_offset : LineOf → ℕ → ℕ → ℕ → Alignment → Option Offset
aligned_offset (LineOf.Horizontal n) total width count alignment = option_map (horizontal_offset total width) (horizontal_of alignment)
aligned_offset (LineOf.Vertical n) total width count alignment = option_map (vertical_offset total width count) (vertical_of alignment)

-- an alignment's offset, moved by another offset: one from the start adds its number, one from the end takes it away, at least to 0
abbrev pub moved : Offset → Offset → Offset
moved (Offset.Start a) (Offset.Start b) = Offset.Start (a + b)
moved (Offset.Start a) (Offset.End b) = Offset.Start (a - b)
moved (Offset.End a) (Offset.Start b) = Offset.End (a + b)
moved (Offset.End a) (Offset.End b) = Offset.End (a - b)

-- an alignment's offset, if there is one, moved by the other offset; else the other offset alone
abbrev pub moved_if_aligned : Option Offset → Offset → Offset
moved_if_aligned None offset = offset
moved_if_aligned (Some aligned) offset = moved aligned offset

-- the number of the place at an offset, on a line of `total` places; past the end of the line there is none
abbrev pub place_number : ℕ → Offset → Option ℕ
place_number total (Offset.Start n) = if nat_le n total then Some n else None
place_number total (Offset.End n) = if nat_le n total then Some (total - n) else None

-- the number of the place at which a text begins
unfoldable pub text_start : LineOf → ℕ → List ℕ → Option Alignment → Offset → Option ℕ
text_start line total letters alignment offset =
    place_number total (moved_if_aligned (option_and_then (aligned_offset line total (width_of letters) (length letters)) alignment) offset)

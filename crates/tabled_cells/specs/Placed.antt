-- A cell as it is printed: where its text stands in it, and what fills the rest.
pub use Rattle.tabled_width.specs.Texts.{times}
pub use Rattle.tabled_rooms.specs.Sizes.{greatest}
use Rattle.std.specs.Prelude.{◌≡◌, ℕ, Bool, true, ◌+◌, ◌-◌, ◌/◌, ◌&&◌, ◌||◌, not, if◌then◌else◌, List, ◌++◌, map, chars}
use Rattle.std.specs.Int.{is_in_range}
use Rattle.std.specs.List.{list_all}
use Rattle.tabled_settings.specs.declared.alignment.AlignmentHorizontal.{AlignmentHorizontal}
use Rattle.tabled_settings.specs.declared.alignment.AlignmentVertical.{AlignmentVertical}
use Rattle.tabled_settings.specs.declared.indent.Indent.{Indent}
use Rattle.tabled_settings.specs.declared.sides.Sides.{Sides}
use Rattle.tabled_width.specs.Narrow.{draws_plainly, is_narrow}
use Rattle.tabled_width.specs.Texts.{width_of_text, is_printable, begins_with}
use Rattle.tabled_cells.specs.declared.filling.LineParts.{LineParts}
use Rattle.tabled_cells.specs.declared.placement.Placement.{Placement}

-- what is shown of the character that fills a side: the character where it draws plainly, else a space. So each line stays as wide
-- as the others
abbrev pub fill_shown : ℕ → ℕ
fill_shown character = if draws_plainly character then character else 32

abbrev pub indent_shown : Indent → Indent
indent_shown side = record { size = side.size; fill = fill_shown side.fill }

-- the padding of a cell as it is shown
abbrev pub padding_shown : Sides Indent → Sides Indent
padding_shown padding = record { left = indent_shown padding.left; right = indent_shown padding.right; top = indent_shown padding.top; bottom = indent_shown padding.bottom }

-- a padding that has spaces at the left, and narrow characters on its other sides, whatever its sizes: what is shown of any padding is narrow
pub record StartsWithSpaces (padding : Sides Indent) : Type 0 where
  pub left : padding.left.fill ≡ 32
  pub right : is_narrow padding.right.fill ≡ true
  pub top : is_narrow padding.top.fill ≡ true
  pub bottom : is_narrow padding.bottom.fill ≡ true

-- how much of what is free in a line stands before the text, and how many of the free lines stand above it: of an odd number the
-- middle leaves one more behind
abbrev pub free_before : AlignmentHorizontal → ℕ → ℕ
free_before AlignmentHorizontal.Left free = 0
free_before AlignmentHorizontal.Center free = free / 2
free_before AlignmentHorizontal.Right free = free

abbrev pub free_above : AlignmentVertical → ℕ → ℕ
free_above AlignmentVertical.Top free = 0
free_above AlignmentVertical.Center free = free / 2
free_above AlignmentVertical.Bottom free = free

-- how many lines of a cell stand above its text, which has so many: those of its padding, and of what is free below these
abbrev pub lines_above : Placement → ℕ → ℕ → ℕ
lines_above how height count =
    how.padding.top.size + free_above how.alignment_vertical (height - how.padding.top.size - how.padding.bottom.size - count)

-- a line between its padding, with the given numbers of a character before it and after it
abbrev pub filled : Sides Indent → ℕ → ℕ → ℕ → List ℕ → List ℕ
filled padding character before after line =
    times padding.left.size padding.left.fill ++ times before character ++ line ++ times after character ++ times padding.right.size padding.right.fill

-- a character fills a line where it draws plainly and joins nothing of it: a printable one of ASCII, or one that draws boxes or blocks,
-- unless the line begins with U+FE0F, which makes emoji of some; another, where the line has printable ASCII alone
abbrev pub fills : ℕ → List ℕ → Bool
fills character line =
    draws_plainly character
    && (if is_printable character || is_in_range 0x2500 0x259F character then not (begins_with 0xFE0F (chars line)) else list_all is_printable line)

-- what fills a line: the character that is set, where it does, else spaces
abbrev pub fill_of : ℕ → List ℕ → ℕ
fill_of character line = if fills character line then character else 32

-- how a line in a column is filled, where something as wide as `aligned` is aligned: the line stands where that begins
unfoldable pub line_parts : Placement → ℕ → ℕ → List ℕ → LineParts
line_parts how width aligned line =
    let room = width - how.padding.left.size - how.padding.right.size in
    let before = free_before how.alignment_horizontal (room - aligned) in
    let after = room - before - width_of_text line in
    record { before = before; after = after; fill = fill_of how.justification line }

-- how wide what is aligned is: a line by itself, or all of them as one, which is as wide as the widest
abbrev pub aligned_width : Placement → List (List ℕ) → List ℕ → ℕ
aligned_width how lines line = if how.line_alignment then width_of_text line else greatest (map width_of_text lines)

-- The padding of a cell: how much room there is on each side between the border and the text, and what fills it.
use Rattle.std.specs.Prelude.{ℕ, Bool, ◌==◌, ◌&&◌, length}
use Rattle.tabled_settings.specs.declared.indent.Indent.{Indent}
use Rattle.tabled_settings.specs.declared.sides.Sides.{Sides}
use Rattle.tabled_settings.specs.Live.{Live}

-- that many columns, or lines, of spaces
abbrev pub spaces : ℕ → Indent
spaces size = record { size = size; fill = 32 }

-- no room, with a space to fill it
abbrev pub no_indent : Indent
no_indent = spaces 0

-- where nothing was set: a space at the left and at the right, and no line above or below
abbrev pub first_padding : Sides Indent
first_padding = record { left = spaces 1; right = spaces 1; top = no_indent; bottom = no_indent }

-- whether it is that many spaces, and whether it is the first padding
abbrev pub is_spaces : ℕ → Indent → Bool
is_spaces size indent = (indent.size == size) && (indent.fill == 32)

abbrev pub is_first_padding : Sides Indent → Bool
is_first_padding padding = is_spaces 1 padding.left && (is_spaces 1 padding.right && (is_spaces 0 padding.top && is_spaces 0 padding.bottom))

-- whether every cell has the first padding, as no other entity than all cells has an event that still counts
abbrev pub keeps_first_padding : Live (Sides Indent) → Bool
keeps_first_padding padding = (length padding.since == 0) && is_first_padding padding.global

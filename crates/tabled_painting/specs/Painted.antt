-- Painted lines: what stands in a line, and in which color.
use Rattle.std.specs.Prelude.{ℕ, Bool, if◌then◌else◌, Option, None, List, map}
use Rattle.tabled_border.specs.Texts.{Texts}

-- a painted line: the bytes of its characters in their order, each with the color of its character, or with none
abbrev pub Painted : Type 0
Painted = List (ℕ × Option Texts)

-- a text in one color
abbrev pub paint : Option Texts → List ℕ → Painted
paint color text = map (λ byte. (byte, color)) text

-- its text alone
abbrev pub plain : Painted → List ℕ
plain line = map (λ painted. painted.0) line

-- a line without its colors
abbrev pub uncolored : Painted → Painted
uncolored line = paint None (plain line)

-- a line as it is written: with its colors, or without them
abbrev pub colored_if : Bool → Painted → Painted
colored_if with_colors line = if with_colors then line else uncolored line

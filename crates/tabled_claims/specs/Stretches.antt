-- The stretches of a painted line: characters next to each other that have one color.
use Rattle.std.specs.Prelude.{ℕ, if◌then◌else◌, Option, List, [], ◌∷◌, ◌++◌}
use Rattle.tabled_border.specs.Texts.{Texts}
use Rattle.tabled_painting.specs.Painted.{Painted}
use Rattle.tabled_painting.specs.InColor.{same_color, prefix_of, suffix_of}

-- a stretch: its color, and its bytes
abbrev pub Stretch : Type 0
Stretch = Option Texts × List ℕ

-- a byte before stretches: it belongs to the first one where that has its color, and else it is one by itself
abbrev pub after_byte : ℕ × Option Texts → List Stretch → List Stretch
after_byte byte [] = (byte.1, byte.0 ∷ []) ∷ []
after_byte byte (first ∷ more) = if same_color byte.1 first.0 then (byte.1, byte.0 ∷ first.1) ∷ more else (byte.1, byte.0 ∷ []) ∷ first ∷ more

-- the stretches of a line
abbrev pub stretches : Painted → List Stretch
stretches [] = []
stretches (byte ∷ line) = after_byte byte (stretches line)

-- a stretch between the two texts of its color
abbrev pub between_its_texts : Stretch → List ℕ
between_its_texts stretch = prefix_of stretch.0 ++ stretch.1 ++ suffix_of stretch.0

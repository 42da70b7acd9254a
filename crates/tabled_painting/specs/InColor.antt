-- Painted lines as a text in color: what is written where the color changes, and at the end of a line.
use Rattle.std.specs.Prelude.{◌≡◌, ℕ, Bool, true, false, ◌==◌, ◌&&◌, if◌then◌else◌, Option, Some, None, List, [], ◌∷◌, ◌++◌, option_copied}
use Rattle.std.specs.Cmp.Lexicographic.{pointwise}
use Rattle.tabled_border.specs.Texts.{Texts}
use Rattle.tabled_painting.specs.Painted.{Painted, colored_if}
use Rattle.tabled_painting.specs.declared.painter.Painter.{Painter}

-- whether two places have the same color: both none, or the same two texts
abbrev pub same_color : Option Texts → Option Texts → Bool
same_color None None = true
same_color None (Some b) = false
same_color (Some a) None = false
same_color (Some a) (Some b) = pointwise ◌==◌ a.prefix b.prefix && pointwise ◌==◌ a.suffix b.suffix

-- the texts before and after what has a color
abbrev pub prefix_of : Option Texts → List ℕ
prefix_of None = []
prefix_of (Some color) = color.prefix

abbrev pub suffix_of : Option Texts → List ℕ
suffix_of None = []
suffix_of (Some color) = color.suffix

-- what is written between a place of the one color and a place of the other
unfoldable pub between : Option Texts → Option Texts → List ℕ
between color next = if same_color color next then [] else suffix_of color ++ prefix_of next

-- the text of a painted line after a place of the given color, up to its last character; and the color of that one
abbrev pub colored : Option Texts → Painted → List ℕ
colored color [] = []
colored color (painted ∷ line) = between color painted.1 ++ painted.0 ∷ colored painted.1 line

abbrev pub last_color : Option Texts → Painted → Option Texts
last_color color [] = color
last_color color (painted ∷ line) = last_color painted.1 line

-- a painted line in color: at its end the last color ends
abbrev pub in_color : Painted → List ℕ
in_color line = colored None line ++ suffix_of (last_color None line)

-- a color, if colors are wanted
abbrev pub color_if : Bool → Option Texts → Option Texts
color_if with_colors color = if with_colors then color else None

-- what stands before a line: a line feed, where another one stands before it
abbrev pub feed_if : Bool → List ℕ
feed_if begun = if begun then 10 ∷ [] else []

-- a part of a line was painted after what stood there: its text was written, and a painter knows the color of the last place
pub record Paints {O : Type 0} (gains : List ℕ → O → O → Type 0) (line : Painted) (old new : Painter O) : Type 0 where
  pub text : gains (colored (option_copied old.color) (colored_if old.with_colors line)) old.out new.out
  pub color : option_copied new.color ≡ last_color (option_copied old.color) (colored_if old.with_colors line)
  pub same_colors : new.with_colors ≡ old.with_colors
  pub same_begun : new.has_begun ≡ old.has_begun

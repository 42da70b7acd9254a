-- The lines of a text that are shown in its cell: all of it, or less where it is trimmed.
use Rattle.std.specs.Prelude.{ℕ, Bool, ◌==◌, if◌then◌else◌, Option, Some, None, List, [], ◌∷◌, map, reverse, take}
use Rattle.std.specs.List.{list_all}
use denote.Ref.{Bor}
use Rattle.tabled_width.specs.Texts.{pieces}
use Rattle.tabled_cells.specs.declared.placement.Placement.{Placement}

-- a list without the elements at its start that pass a test, without those at its end, and without those at both its ends
abbrev pub without_first : {A : Type 0} → (A → Bool) → List A → List A
without_first test [] = []
without_first test (x ∷ xs) = if test x then without_first test xs else x ∷ xs

abbrev pub without_last : {A : Type 0} → (A → Bool) → List A → List A
without_last test xs = reverse (without_first test (reverse xs))

abbrev pub without_ends : {A : Type 0} → (A → Bool) → List A → List A
without_ends test xs = without_last test (without_first test xs)

-- whether a byte is a space, and whether a line has nothing else
abbrev pub is_space : ℕ → Bool
is_space byte = byte == 32

abbrev pub is_blank : List ℕ → Bool
is_blank line = list_all is_space line

-- a line as it is shown: without the spaces at its ends, where these are trimmed
abbrev pub line_trimmed : Bool → List ℕ → List ℕ
line_trimmed trims line = if trims then without_ends is_space line else line

abbrev pub line_shown : Placement → List ℕ → List ℕ
line_shown how line = line_trimmed how.trim_horizontal line

-- the lines of a text, each as it is shown; without the blank ones above and below all others, where these are trimmed
abbrev pub lines_kept : Placement → List (List ℕ) → List (List ℕ)
lines_kept how lines = if how.trim_vertical then without_ends is_blank lines else lines

unfoldable pub lines_shown : Placement → List ℕ → List (List ℕ)
lines_shown how text = lines_kept how (map (line_shown how) (pieces text))

-- so many of the first lines, each without the spaces at its ends, where these are trimmed
abbrev pub first_lines : Bool → ℕ → List (List ℕ) → List (List ℕ)
first_lines trims count lines = map (line_trimmed trims) (take count lines)

-- the lines of what is left of a text, if something is
abbrev pub pieces_left : Option (Bor (List ℕ)) → List (List ℕ)
pieces_left None = []
pieces_left (Some text) = pieces text.now

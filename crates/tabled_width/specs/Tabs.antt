-- Spaces in the place of tabs.
use Rattle.std.specs.Prelude.{ℕ, ◌-◌, ◌%◌, ◌==◌, List, [], ◌∷◌, ◌++◌, replicate}
use Rattle.std.specs.List.{slice_split}
use Rattle.tabled_width.specs.Texts.{width_of_text}
use Rattle.tabled_width.specs.Rows.{by_lines}

-- how many spaces follow a text that begins at a stop, up to the next one, where there is a stop each so many columns; none without stops
abbrev pub spaces_to_stop : ℕ → List ℕ → ℕ
spaces_to_stop every text = every - width_of_text text % every

-- a text that begins at a stop, and spaces up to the next one
abbrev pub up_to_stop : ℕ → List ℕ → List ℕ
up_to_stop every text = text ++ replicate (spaces_to_stop every text) 32

-- texts that tabs part, of which each but the last goes up to a stop, so that the next one begins there
unfoldable pub at_stops : ℕ → List (List ℕ) → List ℕ
at_stops every [] = []
at_stops every (text ∷ []) = text
at_stops every (text ∷ next ∷ more) = up_to_stop every text ++ at_stops every (next ∷ more)

-- each line of a text with spaces in the place of its tabs
unfoldable pub tabs_expanded : ℕ → List ℕ → List ℕ
tabs_expanded every = by_lines (λ line. at_stops every (slice_split (λ byte. byte == 9) line))

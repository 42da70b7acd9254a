-- Rows of cells between separators.
use Rattle.std.specs.Prelude.{ℕ, ◌==◌, not, nat_lt, if◌then◌else◌, List, [], ◌∷◌, length, map}
use Rattle.std.specs.List.{count_by, filter, slice_split}
use Rattle.std.specs.Str.Lines.{lines}
use Rattle.std.specs.declared.vec.Vec.{Vec}
use denote.Ref.{Bor}

-- how many line feeds there are
abbrev pub line_feeds : List ℕ → ℕ
line_feeds bytes = count_by (λ b. b == 10) bytes

-- the bytes of each cell of rows of texts, which are lent
abbrev pub cells_of : {Z : Type 0} → List (Vec (Bor (List ℕ)) Z) → List (List (List ℕ))
cells_of rows = map (λ row. map (λ cell. cell.now) row.items) rows

-- the cells of a line: it is cut at the separator, a character of ASCII; another one separates nothing
abbrev pub cut_at : ℕ → List ℕ → List (List ℕ)
cut_at separator line = if nat_lt separator 128 then slice_split (λ b. b == separator) line else line ∷ []

-- the rows of a text: its lines but blank ones, each cut at the separator. A line ends at a line feed, or at a carriage return and a line
-- feed; one at the end of the text begins no further line
unfoldable pub separated : ℕ → List ℕ → List (List (List ℕ))
separated separator text = map (cut_at separator) (filter (λ line. not (length line == 0)) (lines text))

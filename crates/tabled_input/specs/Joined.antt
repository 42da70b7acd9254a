-- Rows of cells whose texts stand one after the other in one text: how many bytes each cell has, and how many cells each row.
use Rattle.std.specs.Prelude.{ℕ, ◌+◌, ◌≤◌, List, [], ◌∷◌, drop, length, take}
use Rattle.std.specs.Str.{IsUtf8}

-- a list cut into parts of these lengths, one after the other
unfoldable pub parts : {X : Type 0} → List ℕ → List X → List (List X)
parts [] xs = []
parts (n ∷ lengths) xs = take n xs ∷ parts lengths (drop n xs)

-- how much they have together
abbrev pub total : List ℕ → ℕ
total [] = 0
total (n ∷ lengths) = n + total lengths

-- the rows that have ended, the cells of the row that goes on, and what its next cell has so far
pub record Joined : Type 0 where
  pub rows : List (List (List ℕ))
  pub row : List (List ℕ)
  pub cell : List ℕ

abbrev pub joined : List ℕ → List ℕ → List ℕ → Joined
joined counts lengths bytes = record {
  rows = parts counts (parts lengths bytes);
  row = drop (total counts) (parts lengths bytes);
  cell = drop (total lengths) bytes;
}

-- each part of these lengths, and the rest after them, is a text of UTF-8
abbrev pub AreTexts : List ℕ → List ℕ → Type 0
AreTexts [] bytes = IsUtf8 bytes
AreTexts (n ∷ lengths) bytes = (n ≤ length bytes) × IsUtf8 bytes × AreTexts lengths (drop n bytes)

-- Texts that are written for rows of cells, by the grammar of Quoted.antt: each cell bare where it may, or in quotes, whichever is chosen.
use Rattle.std.specs.Prelude.{◌≡◌, ◌≢◌, ◌⊎◌, ℕ, Bool, true, false, not, ◌==◌, ◌&&◌, if◌then◌else◌, List, [], ◌∷◌, ◌++◌, chars, encode_utf8_all, map, slice_index, take}
use Rattle.std.specs.List.{list_all}
use Rattle.tabled_input.specs.Quoted.{without_returns}

-- ---- a cell, of characters

-- none is a separator or a line feed, and the first is no quote
pub record IsBare (separator : ℕ) (cell : List ℕ) : Type 0 where
  pub letters : list_all (λ c. not (c == separator) && not (c == 10)) cell ≡ true
  pub start : (slice_index cell 0 == 34) ≡ false

-- each quote twice
abbrev pub doubled : List ℕ → List ℕ
doubled [] = []
doubled (c ∷ more) = if c == 34 then 34 ∷ 34 ∷ doubled more else c ∷ doubled more

-- in quotes; what follows the second stands for itself
abbrev pub IsInQuotes : ℕ → List ℕ → List ℕ → Type 0
IsInQuotes separator cell text =
    (inner : List ℕ) × (tail : List ℕ) × (cell ≡ inner ++ tail) × (text ≡ 34 ∷ (doubled inner ++ 34 ∷ tail)) × IsBare separator tail

abbrev pub IsCellWritten : ℕ → List ℕ → List ℕ → Type 0
IsCellWritten separator cell text = (IsBare separator cell × (text ≡ cell)) ⊎ IsInQuotes separator cell text

-- ---- rows

-- a row of one cell at least, with separators between them
abbrev pub IsRowWritten : ℕ → List (List ℕ) → List ℕ → Type 0
IsRowWritten separator [] text = ⊥
IsRowWritten separator (cell ∷ []) text = IsCellWritten separator cell text
IsRowWritten separator (cell ∷ next ∷ more) text =
    (front : List ℕ) × (rest : List ℕ) × (text ≡ front ++ separator ∷ rest) × IsCellWritten separator cell front × IsRowWritten separator (next ∷ more) rest

-- rows on lines that are not blank: between two of them is a line feed at least, and before the first and after the last is any number
abbrev pub are_feeds : List ℕ → Bool
are_feeds text = list_all (λ c. c == 10) text

abbrev pub AreRowsWritten : ℕ → List (List (List ℕ)) → List ℕ → Type 0
AreRowsWritten separator [] text = are_feeds text ≡ true
AreRowsWritten separator (row ∷ rows) text =
    (blank : List ℕ) × (front : List ℕ) × (rest : List ℕ) × (text ≡ blank ++ (front ++ rest)) × (are_feeds blank ≡ true)
    × (front ≢ []) × IsRowWritten separator row front × (are_feeds (take 1 rest) ≡ true) × AreRowsWritten separator rows rest

-- so a text is written whose carriage returns before line feeds are left out; what stands between cells is no quote and no line feed
pub record IsWritten (separator : ℕ) (rows : List (List (List ℕ))) (text : List ℕ) : Type 0 where
  pub no_quote : (separator == 34) ≡ false
  pub no_feed : (separator == 10) ≡ false
  pub characters : List (List (List ℕ))
  pub are : rows ≡ map (map encode_utf8_all) characters
  pub written : AreRowsWritten separator characters (without_returns (chars text))

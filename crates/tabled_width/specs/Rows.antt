-- Lines that are too wide, cut into rows.
use Rattle.std.specs.Prelude.{◌≡◌, ℕ, ◌+◌, ◌==◌, true, false, if◌then◌else◌, List, [], ◌∷◌, ◌++◌, map, replicate}
use Rattle.std.specs.List.{All, Contains, slice_split, flat_map, join_with_byte}
use Rattle.tabled_width.specs.Texts.{pieces, fits}
use Rattle.tabled_width.specs.Clusters.{clusters}

-- a part of a line that is not cut, and how many spaces stand before it
pub record Chunk : Type 0 where
  pub gap : ℕ
  pub text : List ℕ

-- a part with no spaces before it
abbrev pub close : List ℕ → Chunk
close text = record { gap = 0; text = text }

-- a row that goes on with a part
abbrev pub joined : List ℕ → Chunk → List ℕ
joined row part = row ++ (replicate part.gap 32 ++ part.text)

-- a row before others, left out where nothing stands on it
abbrev pub before : List ℕ → List (List ℕ) → List (List ℕ)
before [] rows = rows
before (b ∷ bs) rows = (b ∷ bs) ∷ rows

-- a row followed by parts: it takes each as long as it then fits; the part that it has no room for begins the next row, without
-- the spaces before it
unfoldable pub rows : ℕ → List ℕ → List Chunk → List (List ℕ)
rows width row [] = row ∷ []
rows width row (part ∷ parts) =
    if fits width (joined row part) then rows width (joined row part) parts else before row (rows width part.text parts)

-- what is written already, and then the rows of a row that parts follow, each but the last with a line feed
abbrev pub going_on : List ℕ → ℕ → List ℕ → List Chunk → List ℕ
going_on written width row parts = written ++ join_with_byte 10 (rows width row parts)

-- ---- wrapped between clusters

-- the rows of a line: itself if it fits, else its clusters in rows
unfoldable pub line_rows : ℕ → List ℕ → List (List ℕ)
line_rows width line = if fits width line then line ∷ [] else rows width [] (map close (clusters line))

-- each row but the last is full: the next begins with something, of the clusters, with which it would be too wide
abbrev pub AreFull : ℕ → List (List ℕ) → List (List ℕ) → Type 0
AreFull width all [] = Unit {0}
AreFull width all (row ∷ []) = Unit {0}
AreFull width all (row ∷ next ∷ more) =
    ((cluster : List ℕ) × (rest : List ℕ) × Contains all cluster × (next ≡ cluster ++ rest) × (fits width (row ++ cluster) ≡ false))
    × AreFull width all (next ∷ more)

-- ---- wrapped at spaces

-- the words of a line that was cut at its spaces, each with the spaces before it, of which `gap` stand before the first piece
abbrev pub words_from : ℕ → List (List ℕ) → List Chunk
words_from gap [] = []
words_from gap ([] ∷ more) = words_from (gap + 1) more
words_from gap ((b ∷ bs) ∷ more) = record { gap = gap; text = b ∷ bs } ∷ words_from 1 more

-- the words of a line, each with the spaces before it; spaces after the last are left out
abbrev pub words : List ℕ → List Chunk
words line = words_from 0 (slice_split (λ byte. byte == 32) line)

-- clusters of which the first has the spaces before it
abbrev pub spaced : ℕ → List (List ℕ) → List Chunk
spaced gap [] = []
spaced gap (text ∷ texts) = record { gap = gap; text = text } ∷ map close texts

-- what of a word is not cut: all of it if it fits alone, else each of its clusters
abbrev pub parts_of : ℕ → Chunk → List Chunk
parts_of width word = if fits width word.text then word ∷ [] else spaced word.gap (clusters word.text)

-- the rows of a line that is cut at its spaces
unfoldable pub word_rows : ℕ → List ℕ → List (List ℕ)
word_rows width line = if fits width line then line ∷ [] else rows width [] (flat_map (parts_of width) (words line))

-- a line is these rows in their order, with only spaces before each and after the last
abbrev pub IsSpacedOut : List (List ℕ) → List ℕ → Type 0
IsSpacedOut [] line = (count : ℕ) × (line ≡ replicate count 32)
IsSpacedOut (row ∷ rows) line =
    (count : ℕ) × (rest : List ℕ) × (line ≡ replicate count 32 ++ (row ++ rest)) × IsSpacedOut rows rest

-- ---- whole texts

-- each line of a text by itself
abbrev pub by_lines : (List ℕ → List ℕ) → List ℕ → List ℕ
by_lines change text = join_with_byte 10 (map change (pieces text))

unfoldable pub wrapped : ℕ → List ℕ → List ℕ
wrapped width = by_lines (λ line. join_with_byte 10 (line_rows width line))

unfoldable pub wrapped_words : ℕ → List ℕ → List ℕ
wrapped_words width = by_lines (λ line. join_with_byte 10 (word_rows width line))

-- ---- what laws ask for

-- each cluster of each line fits
abbrev pub ClustersFit : ℕ → List ℕ → Type 0
ClustersFit width text = All (λ line. All (λ cluster. fits width cluster ≡ true) (clusters line)) (pieces text)

-- each cluster of each word of a line fits
abbrev pub WordsFit : ℕ → List ℕ → Type 0
WordsFit width line = All (λ word. All (λ cluster. fits width cluster ≡ true) (clusters word.text)) (words line)

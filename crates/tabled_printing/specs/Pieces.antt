-- A text taken apart piece by piece.
use Rattle.std.specs.Prelude.{ℕ, ◌==◌, List, map}
use Rattle.std.specs.List.{before_first, after_first}
use denote.Ref.{Bor}

-- the texts that are lent
abbrev pub lent : List (Bor (List ℕ)) → List (List ℕ)
lent texts = map (λ text. text.now) texts

-- what stands before the first line feed of a text, and after it; without one the whole text, and nothing
abbrev pub first_piece : List ℕ → List ℕ
first_piece text = before_first (λ byte. byte == 10) text

abbrev pub after_first_piece : List ℕ → List ℕ
after_first_piece text = after_first (λ byte. byte == 10) text

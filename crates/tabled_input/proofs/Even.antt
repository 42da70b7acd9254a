-- Spaced rows have as many cells each.
use Rattle.std.proofs.Common.{◌≡◌, ℕ, zero, suc, Bool, List, length, get_or, refl, ap}
use Rattle.std.proofs.lemmas.List.Elements.{All-map}
use Rattle.tabled_input.specs.Spaced.{AreEven, cells_of_line, columns_in, has_wide, spaced, word_lines}

pub length-cells_of_line : (is_wide : Bool) (columns : ℕ) (line : List ℕ) → length (cells_of_line is_wide columns line) ≡ columns
unfolding cells_of_line
length-cells_of_line is_wide zero line = refl
length-cells_of_line is_wide (suc zero) line = refl
length-cells_of_line is_wide (suc (suc more)) line = ap suc (length-cells_of_line is_wide (suc more) _)

pub spaced_even : (text : List ℕ) → AreEven (spaced text)
unfolding spaced
spaced_even text = (
  columns_in text,
  All-map (λ (row : List (List ℕ)). length row ≡ columns_in text) (cells_of_line (has_wide text) (columns_in text)) (word_lines text)
      (λ k d within. length-cells_of_line (has_wide text) (columns_in text) (get_or (word_lines text) k d)),
)

-- A text cut at the first byte that is a given one of ASCII.
use Rattle.std.proofs.lemmas.Grind.{common_steps}
use Rattle.std.proofs.Common.{◌≡◌, ◌==◌, ℕ, ◌+◌, ◌<◌, Bool, List, [], ◌∷◌, length, get_or, take, drop, Some, None, sym, ap, ◌∙◌, arith}
use Rattle.std.specs.List.{position, position_or_len, slice_split}
use Rattle.std.specs.Str.{IsCharBoundary, IsUtf8}
use Rattle.std.proofs.lemmas.Bool.{eqb-true}
use Rattle.std.proofs.lemmas.Bool.Decides.{nat_tests}
use Rattle.std.proofs.lemmas.List.Splits.{slice_split_first, slice_split_none}
use Rattle.std.proofs.lemmas.List.Sums.{fails_before_first, passes_at_first}
use Rattle.std.proofs.lemmas.Str.{IsCharBoundary-before_ascii, IsCharBoundary-after_ascii}

module _ (separator : ℕ) (text : List ℕ) where
  abbrev is_one : ℕ → Bool
  is_one byte = byte == separator

  pub whole : position is_one text ≡ None → slice_split is_one text ≡ text ∷ []
  whole none = slice_split_none is_one text (λ k d h. fails_before_first is_one text k d (grind (arith, nat_tests, common_steps)))

  module _ (k : ℕ) (found : position is_one text ≡ Some k) where
    place : position_or_len is_one text ≡ k
    place = grind (arith, nat_tests, common_steps)

    pub inside : k < length text
    inside = grind (arith, nat_tests, common_steps)

    pub in_two : slice_split is_one text ≡ take k text ∷ slice_split is_one (drop (k + 1) text)
    in_two =
        slice_split_first is_one text 0 (omega (arith, place, inside))
        ∙ ap (λ n. take n text ∷ slice_split is_one (drop (n + 1) text)) place

    is_ascii : separator < 128 → get_or text k 0 < 128
    is_ascii ascii =
        let is : get_or text k 0 ≡ separator = eqb-true (get_or text k 0) separator (ap (λ n. is_one (get_or text n 0)) (sym place) ∙ passes_at_first is_one text 0 (omega (arith, place, inside))) in
        omega (arith, is, ascii)

    pub before : separator < 128 → IsCharBoundary text k
    before ascii = IsCharBoundary-before_ascii text k inside (is_ascii ascii)

    pub after : IsUtf8 text → separator < 128 → IsCharBoundary text (k + 1)
    after utf8 ascii = IsCharBoundary-after_ascii text k utf8 inside (is_ascii ascii)

-- What is known of the texts of values.
use Rattle.std.specs.Prelude.{◌≡◌, ℕ, Option, Some, List, IfSome, map}
use Rattle.std.specs.List.{AllZip, range_with_len}
use Rattle.std.specs.Fmt.{decimal}

-- a text is the known one, if one is known
abbrev pub IsSpelled : Option (List ℕ) → List ℕ → Type 0
IsSpelled known text = IfSome known (λ bytes. text ≡ bytes)

-- each text is the known one, if one is, and they are as many
unfoldable pub AreSpelled : List (Option (List ℕ)) → List (List ℕ) → Type 0
AreSpelled known texts = AllZip IsSpelled known texts

-- a row has the texts that are known of it, if it is said what they are
abbrev pub IsRow : Option (List (Option (List ℕ))) → List (List ℕ) → Type 0
IsRow known row = IfSome known (λ texts. AreSpelled texts row)

-- the numbers below a count, as texts
abbrev pub numbers : ℕ → List (Option (List ℕ))
numbers count = map (λ number. Some (decimal number)) (range_with_len 0 count)

-- Texts: bytes that are cut at line feeds, and how many columns they take on a terminal.
use Rattle.std.specs.Prelude.{◌≡◌, ℕ, Bool, true, false, ◌&&◌, ◌==◌, nat_le, List, [], ◌∷◌, ◌++◌, chars, map, length, take, replicate, encode_utf8_all, MatchResult, Result}
use Rattle.std.specs.String.{string_bytes}
use Rattle.std.specs.declared.string.String.{String}
use Rattle.std.specs.declared.vec.Vec.{Vec}
use Rattle.std.specs.List.{All, slice_split}
use Rattle.unicode_width.specs.Width.{str_width}

-- the lines of a text: the pieces between its line feeds, one more than there are line feeds
abbrev pub pieces : List ℕ → List (List ℕ)
pieces text = slice_split (λ byte. byte == 10) text

-- how many terminal columns a text takes
abbrev pub width_of_text : List ℕ → ℕ
width_of_text text = str_width false (chars text)

-- whether a text takes at most so many columns
abbrev pub fits : ℕ → List ℕ → Bool
fits width text = nat_le (width_of_text text) width

-- each line of a text fits
abbrev pub LinesFit : ℕ → List ℕ → Type 0
LinesFit width text = All (λ line. fits width line ≡ true) (pieces text)

-- whether a byte is a printable character of ASCII
abbrev pub is_printable : ℕ → Bool
is_printable byte = nat_le 32 byte && nat_le byte 126

-- whether the first of some characters is this one
abbrev pub begins_with : ℕ → List ℕ → Bool
begins_with character [] = false
begins_with character (first ∷ more) = first == character

-- a table's texts: the bytes of each cell, row by row
abbrev pub Table : Type 0
Table = List (List (List ℕ))

-- the bytes of each cell of rows of texts
abbrev pub texts : {Z W : Type 0} → List (Vec (String Z) W) → Table
texts rows = map (λ row. map string_bytes row.items) rows

-- a character, the given number of times
abbrev pub times : ℕ → ℕ → List ℕ
times count character = encode_utf8_all (replicate count character)

-- where a call succeeds, the new text is the old one followed by these bytes; where it is refused, the new text still begins
-- with the old one
abbrev pub Appends : {T E Z : Type 0} → Result T E → String Z → String Z → List ℕ → Type 0
Appends result old new bytes =
    MatchResult result (λ _. string_bytes new ≡ string_bytes old ++ bytes) (λ _. take (length (string_bytes old)) (string_bytes new) ≡ string_bytes old)

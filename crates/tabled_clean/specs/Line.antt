-- Texts on one line.
use Rattle.std.specs.Prelude.{ℕ, ◌==◌, if◌then◌else◌, List, map, chars, encode_utf8_all}
use Rattle.tabled_clean.specs.Steering.{cleaned, without_steering}

-- a character on a line: a picture in the place of a line feed
abbrev pub in_line : ℕ → ℕ
in_line character = if character == 10 then 0x240A else character

-- characters on one line, of which none steers
abbrev pub on_one_line : List ℕ → List ℕ
on_one_line characters = map in_line (without_steering characters)

-- a text on one line, cleaned
unfoldable pub cleaned_line : List ℕ → List ℕ
cleaned_line text = encode_utf8_all (map in_line (chars (cleaned text)))

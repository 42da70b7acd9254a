-- Texts of printable characters of ASCII alone, each of which is one line.
use Rattle.std.specs.Prelude.{◌≡◌, ℕ, true, List, [], slice_index_or}
use Rattle.std.specs.List.{list_all}
use Rattle.tabled_width.specs.Texts.{is_printable}

-- each text of a row is such a one
abbrev pub ArePrintable : List (List ℕ) → Type 0
ArePrintable texts = (c : ℕ) → list_all is_printable (slice_index_or texts c []) ≡ true

-- Characters that take one column and join nothing, and texts of lines that are as wide as each other.
use Rattle.std.specs.Prelude.{◌≡◌, ℕ, ◌+◌, Bool, true, false, ◌&&◌, ◌||◌, ◌==◌, nat_lt, List, [], ◌∷◌, ◌++◌, chars, encode_utf8}
use Rattle.std.specs.List.{list_all}
use Rattle.std.specs.Int.{is_in_range}
use Rattle.unicode_width.specs.declared.kind.Kind.{Kind}
use Rattle.unicode_width.specs.declared.kind.Kind.TheVariants as kinds
use Rattle.unicode_width.specs.Kind.{kind}
use Rattle.tabled_width.specs.Texts.{pieces, width_of_text}

-- whether the characters of a kind take one column each and join nothing that stands before them
abbrev pub is_narrow_kind : Kind → Bool
is_narrow_kind kinds.Narrow = true
is_narrow_kind kinds.Ambiguous = true
is_narrow_kind _ = false

-- whether a character is narrow: a printable one of ASCII, or one above U+00A0 of such a kind
abbrev pub is_narrow : ℕ → Bool
is_narrow c = is_in_range 0x20 0x7E c || (nat_lt 0xA0 c && is_narrow_kind (kind c))

-- whether a character is surely narrow, by a test that is soon made: a printable one of ASCII, one that draws boxes or blocks, or one
-- above U+00A0 that is narrow, but wide in an East Asian context
abbrev pub is_ambiguous_kind : Kind → Bool
is_ambiguous_kind kinds.Ambiguous = true
is_ambiguous_kind _ = false

abbrev pub draws_plainly : ℕ → Bool
draws_plainly c = is_in_range 0x20 0x7E c || (is_in_range 0x2500 0x259F c || (nat_lt 0xA0 c && is_ambiguous_kind (kind c)))

-- whether a text joins nothing that stands before it: it has nothing, begins with a space, or has narrow characters alone
abbrev pub begins_with_space : List ℕ → Bool
begins_with_space [] = true
begins_with_space (byte ∷ text) = byte == 32

abbrev pub stands_apart : List ℕ → Bool
stands_apart text = begins_with_space text || list_all is_narrow (chars text)

-- each line of a text takes so many columns
abbrev pub IsRectangle : ℕ → List ℕ → Type 0
IsRectangle width text = list_all (λ line. width_of_text line == width) (pieces text) ≡ true

-- in a line of a text, after so many columns stands that character, which takes one column
pub record StandsAt (column : ℕ) (character : ℕ) (line : List ℕ) : Type 0 where
  pub front : List ℕ
  pub back : List ℕ
  pub parts : line ≡ front ++ encode_utf8 character ++ back
  pub before : width_of_text front ≡ column
  pub whole : width_of_text line ≡ column + 1 + width_of_text back

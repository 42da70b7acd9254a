-- Texts of others as a refusal tells them: on one line, nothing in them steers, and each character is seen.
use Rattle.std.specs.Prelude.{ℕ, Bool, ◌==◌, ◌||◌, if◌then◌else◌, List, map, chars, encode_utf8_all}
use Rattle.tabled_clean.specs.Line.{cleaned_line}
use Rattle.tabled_clean.specs.Steering.{is_between}

-- a character that is not seen: a soft hyphen, a joiner or a filler without width, a variation selector, a byte order mark, a tag
unfoldable pub is_unseen : ℕ → Bool
is_unseen c =
    (c == 0xAD) || (c == 0x34F) || is_between 0x115F 0x1160 c || is_between 0x17B4 0x17B5 c || is_between 0x180B 0x180F c || is_between 0x200B 0x200D c
    || is_between 0x2060 0x2065 c || (c == 0x3164) || is_between 0xFE00 0xFE0F c || (c == 0xFEFF) || (c == 0xFFA0) || is_between 0xFFF0 0xFFF8 c
    || is_between 0x1BCA0 0x1BCA3 c || is_between 0x1D173 0x1D17A c || is_between 0xE0000 0xE0FFF c

-- the character for what can't be shown stands in its place
abbrev pub seen : ℕ → ℕ
seen c = if is_unseen c then 0xFFFD else c

unfoldable pub told : List ℕ → List ℕ
told text = encode_utf8_all (map seen (chars (cleaned_line text)))

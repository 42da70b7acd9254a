-- Characters that steer a terminal, and texts without them.
use Rattle.std.specs.Prelude.{◌≡◌, ℕ, ◌+◌, Bool, true, not, ◌&&◌, ◌||◌, ◌==◌, nat_lt, nat_le, if◌then◌else◌, List, [], ◌∷◌, ◌++◌, chars, encode_utf8_all, slice_index}
use Rattle.std.specs.List.{list_all}
use Rattle.std.specs.Str.{IsUtf8}

abbrev pub is_between : ℕ → ℕ → ℕ → Bool
is_between first last c = nat_le first c && nat_le c last

-- a control character: below the space, but the line feed; the delete character, and those after it up to U+009F
abbrev pub is_control : ℕ → Bool
is_control c = (nat_lt c 32 && not (c == 10)) || is_between 0x7F 0x9F c

-- a mark of a direction, or one that embeds, overrides or isolates a direction, or ends that, or an old one of digits and of shapes
abbrev pub is_direction : ℕ → Bool
is_direction c = (c == 0x61C) || is_between 0x200E 0x200F c || is_between 0x202A 0x202E c || is_between 0x2066 0x206F c

-- a separator of lines or of paragraphs
abbrev pub is_separator : ℕ → Bool
is_separator c = is_between 0x2028 0x2029 c

-- a mark of an annotation between the lines
abbrev pub is_annotation : ℕ → Bool
is_annotation c = is_between 0xFFF9 0xFFFB c

-- whether a character steers a terminal
unfoldable pub steers : ℕ → Bool
steers c = is_control c || is_direction c || is_separator c || is_annotation c

-- what is shown in its place: the picture of a control character of ASCII, and else the character for what can't be shown
abbrev pub picture : ℕ → ℕ
picture c = if nat_lt c 32 then 0x2400 + c else if c == 0x7F then 0x2421 else 0xFFFD

abbrev pub shown_for : ℕ → ℕ
shown_for c = if steers c then picture c else c

-- characters of which none steers: a carriage return before a line feed is left out
unfoldable pub without_steering : List ℕ → List ℕ
without_steering [] = []
without_steering (c ∷ more) =
    if (c == 13) && (slice_index more 0 == 10) then without_steering more else shown_for c ∷ without_steering more

-- a text, cleaned
unfoldable pub cleaned : List ℕ → List ℕ
cleaned text = encode_utf8_all (without_steering (chars text))

-- whether a byte is a printable character of ASCII
abbrev pub is_printable : ℕ → Bool
is_printable byte = is_between 32 126 byte

-- whether no character of a text steers
abbrev pub is_clean : List ℕ → Bool
is_clean text = list_all (λ c. not (steers c)) (chars text)

-- a text of characters of which none steers
abbrev pub IsCleanText : List ℕ → Type 0
IsCleanText text = IsUtf8 text × (is_clean text ≡ true)

-- what is written, and then what further characters give, before which a carriage return may have been held back
abbrev pub going_on : List ℕ → Bool → List ℕ → List ℕ
going_on written is_held more = written ++ encode_utf8_all (without_steering (if is_held then 13 ∷ more else more))

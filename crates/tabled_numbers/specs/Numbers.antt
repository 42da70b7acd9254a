-- Texts that are numbers.
--
--     number    [sign] amount [exponent] ["%"]
--     amount    whole, or [whole] "." digits
--     whole     digits, with one "," or "_" between two of them
--     exponent  "e" or "E", [sign] digits
use Rattle.std.specs.Prelude.{ℕ, ◌-◌, Bool, not, ◌==◌, ◌&&◌, ◌||◌, nat_le, if◌then◌else◌, List, [], ◌∷◌, length, take, slice_index, is_some}
use Rattle.std.specs.List.{list_all, before_first, after_first, position, slice_split}

abbrev pub is_digit : ℕ → Bool
is_digit b = nat_le 48 b && nat_le b 57

abbrev pub is_sign : ℕ → Bool
is_sign b = (b == 43) || (b == 45)

-- a comma or a low line, which may stand between digits
abbrev pub is_mark : ℕ → Bool
is_mark b = (b == 44) || (b == 95)

abbrev pub is_point : ℕ → Bool
is_point b = b == 46

-- the letter before an exponent, small or large
abbrev pub is_exponent_letter : ℕ → Bool
is_exponent_letter b = (b == 101) || (b == 69)

-- without a sign at the start
abbrev pub without_sign : List ℕ → List ℕ
without_sign [] = []
without_sign (b ∷ bytes) = if is_sign b then bytes else b ∷ bytes

-- without a percent sign at the end
abbrev pub without_percent : List ℕ → List ℕ
without_percent bytes = if slice_index bytes (length bytes - 1) == 37 then take (length bytes - 1) bytes else bytes

-- digits, at least one
abbrev pub are_digits : List ℕ → Bool
are_digits bytes = not (length bytes == 0) && list_all is_digit bytes

-- digits, and one mark between two runs of them
unfoldable pub is_whole : List ℕ → Bool
is_whole bytes = list_all are_digits (slice_split is_mark bytes)

-- digits after a point, and nothing or a whole number before it
abbrev pub is_pointed : List ℕ → List ℕ → Bool
is_pointed whole fraction = ((length whole == 0) || is_whole whole) && are_digits fraction

-- a whole number, or digits after a point, before which a whole number may stand
unfoldable pub is_amount : List ℕ → Bool
is_amount bytes =
    if is_some (position is_point bytes)
    then is_pointed (before_first is_point bytes) (after_first is_point bytes)
    else is_whole bytes

-- an amount, after which an exponent may stand
unfoldable pub is_scaled : List ℕ → Bool
is_scaled bytes =
    if is_some (position is_exponent_letter bytes)
    then is_amount (before_first is_exponent_letter bytes) && are_digits (without_sign (after_first is_exponent_letter bytes))
    else is_amount bytes

-- whether a text is a number
unfoldable pub is_number : List ℕ → Bool
is_number text = is_scaled (without_sign (without_percent text))

-- Numbers in words.
use Rattle.std.specs.Prelude.{ℕ, ◌+◌, ◌*◌, ◌-◌, min, nat_le, if◌then◌else◌, List, fold, Option, Some, None}
use Rattle.tabled_numbers.specs.Numbers.{are_digits}
use Rattle.tabled_request.specs.declared.numerals.TheConstants.{MOST}

-- the number that digits write, which counts as the greatest that is told apart where it is greater
unfoldable pub value_of : List ℕ → ℕ
value_of digits = fold (λ n b. min (n * 10 + (b - 48)) MOST) 0 digits

-- the number that a word writes, if it does
unfoldable pub number_of : List ℕ → Option ℕ
number_of text = if are_digits text then Some (value_of text) else None

-- a number from 1 on
abbrev pub from_one : Option ℕ → Option ℕ
from_one None = None
from_one (Some number) = if nat_le 1 number then Some number else None

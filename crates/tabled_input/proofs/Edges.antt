-- Where a line may be cut beside its blanks.
use Rattle.std.proofs.Common.{◌≡◌, ℕ, ◌<◌, ◌≤◌, zero, suc, true, List, length, get_or, refl, subst, arith}
use Rattle.std.specs.List.{prefix_len}
use Rattle.std.specs.Str.{IsCharBoundary, IsUtf8}
use Rattle.std.proofs.lemmas.Bool.Decides.{nat_tests}
use Rattle.std.proofs.lemmas.List.Sums.{prefix_len-le-length, prefix_len_passes}
use Rattle.std.proofs.lemmas.Str.{IsCharBoundary-after_ascii, IsCharBoundary-start}
use Rattle.tabled_input.specs.Spaced.{is_blank}

-- a blank is a character of ASCII
blank_is_ascii : (c : ℕ) → is_blank c ≡ true → c < 128
blank_is_ascii c e = grind (arith, nat_tests)

-- a blank stands there, if anything does
abbrev pub IsStop : List ℕ → ℕ → Type 0
IsStop line n = (n ≤ length line) × (n < length line → is_blank (get_or line n 0) ≡ true)

pub at_stop : (line : List ℕ) (n : ℕ) → IsStop line n → IsCharBoundary line n
at_stop line n stop = (stop.0, λ within high. absurd (omega (arith, high, blank_is_ascii (get_or line n 0) (stop.1 within))))

-- after the blanks that it begins with
pub after_blanks : (line : List ℕ) → IsUtf8 line → IsCharBoundary line (prefix_len is_blank line)
after_blanks line utf8 = by (prefix_len is_blank line) refl
  where
    by : (n : ℕ) → prefix_len is_blank line ≡ n → IsCharBoundary line n
    by zero e = IsCharBoundary-start line utf8
    by (suc n) e =
        let within : n < length line = omega (arith, e, prefix_len-le-length is_blank line) in
        subst (IsCharBoundary line) (omega arith) (IsCharBoundary-after_ascii line n utf8 within (blank_is_ascii (get_or line n 0) (prefix_len_passes is_blank line n 0 (omega arith))))

-- Printable texts and numbers, in which nothing steers.
use Rattle.std.proofs.Common.{◌≡◌, ◌==◌, ℕ, ◌/◌, ◌%◌, ◌<◌, zero, suc, Bool, true, false, if◌then◌else◌, List, [], ◌∷◌, get_or, decimal, arith, lit<}
use Rattle.std.specs.Fmt.{digit_glyph, digits, digits_onto}
use Rattle.std.specs.List.{list_all}
use Rattle.std.proofs.Math.Nat.{mod-lt}
use Rattle.std.proofs.lemmas.Bool.Decides.{nat_tests}
use Rattle.std.proofs.lemmas.List.Sums.{AllPass-from_list_all}
use Rattle.std.proofs.lemmas.Str.{IsUtf8-from_ascii}
use Rattle.std.proofs.lemmas.Str.Ascii.{IsAscii-from_all}
use Rattle.tabled_clean.specs.Steering.{IsCleanText, is_printable, steers}
use Rattle.tabled_clean.proofs.SteeringLemmas.{printable_is_clean}
use Rattle.tabled_program_claims.proofs.CleanLimits.{clean_both, clean_nil, clean_one}

below_128 : (byte : ℕ) → is_printable byte ≡ true → byte < 128
below_128 byte e = grind (arith, nat_tests)

pub printed : (text : List ℕ) → list_all is_printable text ≡ true → IsCleanText text
printed text e =
    let pass = AllPass-from_list_all is_printable text e in
    (IsUtf8-from_ascii text (IsAscii-from_all text (λ k d within. below_128 (get_or text k d) (pass k d within))), printable_is_clean text e)

digit_low : (d : ℕ) → d < 10 → digit_glyph false d < 128
digit_low d h = grind (arith, nat_tests)

digit_quiet : (d : ℕ) → d < 10 → steers (digit_glyph false d) ≡ false
unfolding steers
digit_quiet d h = grind (arith, nat_tests)

either_clean : (b : Bool) (first second : List ℕ) → IsCleanText first → IsCleanText second → IsCleanText (if b then first else second)
either_clean true first second one other = one
either_clean false first second one other = other

digits_clean : (count n : ℕ) (after : List ℕ) → IsCleanText after → IsCleanText (digits_onto count 10 false n after)
digits_clean zero n after clean = clean
digits_clean (suc count) n after clean =
    let rest : n % 10 < 10 = mod-lt n (lit< tt) in
    let digit : ℕ = digit_glyph false (n % 10) in
    let more : IsCleanText (digit ∷ after) = clean_both (digit ∷ []) after (clean_one digit (digit_low (n % 10) rest) (digit_quiet (n % 10) rest)) clean in
    either_clean (n / 10 == 0) (digit ∷ after) (digits_onto count 10 false (n / 10) (digit ∷ after)) more (digits_clean count (n / 10) (digit ∷ after) more)

pub decimal_clean : (n : ℕ) → IsCleanText (decimal n)
unfolding digits
decimal_clean n = digits_clean 64 n [] clean_nil

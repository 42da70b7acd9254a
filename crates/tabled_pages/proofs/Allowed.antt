-- Allowed bytes are ASCII, so that they are a text.
use Rattle.std.proofs.Common.{◌≡◌, ℕ, ◌<◌, true, List, get_or, refl, arith, Result, Ok, Err}
use Rattle.std.specs.Prelude.{IsOk, MatchResult}
use Rattle.std.specs.List.{list_all}
use Rattle.std.specs.Str.{IsUtf8}
use Rattle.std.proofs.lemmas.Bool.Decides.{nat_tests}
use Rattle.std.proofs.lemmas.List.Sums.{AllPass-from_list_all}
use Rattle.std.proofs.lemmas.Str.{IsUtf8-from_ascii}
use Rattle.std.proofs.lemmas.Str.Ascii.{IsAscii-from_all}
use Rattle.tabled_pages.specs.Input.{is_allowed}

below_128 : (b : ℕ) → is_allowed b ≡ true → b < 128
below_128 b h = grind (arith, nat_tests)

pub IsUtf8-allowed : (input : List ℕ) → list_all is_allowed input ≡ true → IsUtf8 input
IsUtf8-allowed input h =
    let pass = AllPass-from_list_all is_allowed input h in
    IsUtf8-from_ascii input (IsAscii-from_all input (λ k d within. below_128 (get_or input k d) (pass k d within)))

-- bytes that are a text are read as one
pub read_as_text : {A B : Type 0} (P : A → Type 0) (Q : B → Type 0) (r : Result A B) (input : List ℕ)
    → MatchResult r P (λ e. ¬ (IsUtf8 input) × Q e) → IsUtf8 input → IsOk r
read_as_text P Q (Ok text) input cases utf8 = refl
read_as_text P Q (Err e) input cases utf8 = absurd (cases.0 utf8)

-- A text of printable characters of ASCII is as wide as it has bytes.
use Rattle.std.proofs.Common.{◌≡◌, ℕ, ◌<◌, true, false, List, length, get_or, ap, ◌∙◌, arith}
use Rattle.std.specs.List.{list_all}
use Rattle.std.specs.Str.{IsAscii}
use Rattle.std.proofs.lemmas.Bool.Decides.{nat_tests}
use Rattle.std.proofs.lemmas.List.Sums.{AllPass-from_list_all}
use Rattle.std.proofs.lemmas.Str.{chars-IsAscii}
use Rattle.std.proofs.lemmas.Str.Ascii.{IsAscii-from_all}
use Rattle.unicode_width.proofs.Rules.{str_width-printable}
use Rattle.unicode_width.specs.Width.{str_width}
use Rattle.tabled_width.specs.Texts.{width_of_text, is_printable}

pub below_128 : (b : ℕ) → is_printable b ≡ true → b < 128
below_128 b h = grind (arith, nat_tests)

pub printable_ascii : (text : List ℕ) → list_all is_printable text ≡ true → IsAscii text
printable_ascii text printable =
    let pass = AllPass-from_list_all is_printable text printable in
    IsAscii-from_all text (λ k d within. below_128 (get_or text k d) (pass k d within))

pub printable_width : (text : List ℕ) → list_all is_printable text ≡ true → width_of_text text ≡ length text
printable_width text printable =
    ap (str_width false) (chars-IsAscii text (printable_ascii text printable)) ∙ str_width-printable false text printable

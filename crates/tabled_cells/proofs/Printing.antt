-- A text of printable characters of ASCII is one line, as wide as it has bytes.
pub use Rattle.tabled_width.proofs.Printing.{printable_width}
use Rattle.std.proofs.Common.{◌≡◌, ℕ, true, false, List, [], ◌∷◌, get_or, arith, eqb}
use Rattle.std.specs.List.{list_all}
use Rattle.std.proofs.lemmas.Bool.Decides.{nat_tests}
use Rattle.std.proofs.lemmas.List.Splits.{slice_split_none}
use Rattle.std.proofs.lemmas.List.Sums.{AllPass-from_list_all}
use Rattle.tabled_width.specs.Texts.{pieces, is_printable}

no_line_feed : (b : ℕ) → is_printable b ≡ true → eqb b 10 ≡ false
no_line_feed b h = grind (arith, nat_tests)

pub one_piece : (text : List ℕ) → list_all is_printable text ≡ true → pieces text ≡ text ∷ []
one_piece text h = slice_split_none (λ b. eqb b 10) text (λ k d within. no_line_feed (get_or text k d) (AllPass-from_list_all is_printable text h k d within))

-- A byte order mark at the start of a text.
use Rattle.std.proofs.Common.{◌≡◌, ◌≢◌, ◌==◌, ℕ, Bool, true, false, if◌then◌else◌, List, [], ◌∷◌, ◌++◌, drop, encode_utf8, refl, sym, ap, ◌∙◌}
use Rattle.std.specs.List.{starts_with}
use Rattle.std.specs.Str.{IsUtf8}
use Rattle.std.proofs.lemmas.Bool.Decides.{Decides-eqb}
use Rattle.std.proofs.lemmas.Slice.Eq.{starts_is}
use Rattle.std.proofs.lemmas.Str.{IsUtf8-past_char}
use Rattle.tabled_input.specs.Input.{without_mark}

abbrev mark : List ℕ
mark = 239 ∷ 187 ∷ 191 ∷ []

is_mark : encode_utf8 65279 ≡ mark
unfolding lib.Utf8.encode
is_mark = refl

pub mark_dropped : (text rest : List ℕ) → text ≡ encode_utf8 65279 ++ rest → without_mark text ≡ rest
unfolding without_mark
mark_dropped text rest e = ap without_mark (e ∙ ap (λ bytes. bytes ++ rest) is_mark)

begins : (text : List ℕ) → starts_with (λ a b. a == b) text mark ≡ true → text ≡ encode_utf8 65279 ++ drop 3 text
begins text e = (starts_is Decides-eqb text mark true (sym e)).0 refl ∙ ap (λ bytes. bytes ++ drop 3 text) (sym is_mark)

pub mark_absent : (text : List ℕ) → ((rest : List ℕ) → text ≢ encode_utf8 65279 ++ rest) → without_mark text ≡ text
unfolding without_mark
mark_absent text none = by (starts_with (λ a b. a == b) text mark) refl
  where
    by : (b : Bool) → starts_with (λ a b. a == b) text mark ≡ b → (if b then drop 3 text else text) ≡ text
    by true e = absurd (none (drop 3 text) (begins text e))
    by false e = refl

-- what is left is a text
pub mark_text : (text : List ℕ) → IsUtf8 text → IsUtf8 (without_mark text)
unfolding without_mark
mark_text text utf8 = by (starts_with (λ a b. a == b) text mark) refl
  where
    by : (b : Bool) → starts_with (λ a b. a == b) text mark ≡ b → IsUtf8 (if b then drop 3 text else text)
    by true e = IsUtf8-past_char text (drop 3 text) 65279 utf8 (begins text e)
    by false e = utf8

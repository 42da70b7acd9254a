-- The text is its first character and what follows, or empty.
use Rattle.std.proofs.Common.{◌≡◌, ◌++◌, length, sym, ap, ◌∙◌, arith, length-append, encode_utf8, chars}
use Rattle.std.proofs.lemmas.Str.{chars_past_char, chars-nil, length-encode, len_utf8_bounds}
use Rattle.std.proofs.lemmas.List.{nil_from_length}
use Rattle.tabled_width.proofs.clusters.first_character.Goals as goal

pub returns-in-Some : goal.returns-in-Some
returns-in-Some c =
    let first = c.in-Some.character in
    let rest = c.as_str.result.now in
    let cut : c.args.text.now ≡ encode_utf8 first ++ rest =
    sym c.chars-characters.ensures.rest ∙ c.in-Some.ensures.steps.0 ∙ ap (λ bs. encode_utf8 first ++ bs) (sym c.as_str.ensures) in
    (chars_past_char c.args.text.now rest first c.utf8.text cut, cut, omega (arith, ap length cut, length-append (encode_utf8 first) rest, length-encode first, (len_utf8_bounds first).0))

pub returns-in-None : goal.returns-in-None
returns-in-None c =
    let none = sym c.chars-characters.ensures.rest ∙ nil_from_length _ c.in-None.ensures.steps.0.0 in
    (ap chars none ∙ chars-nil, none)

-- Texts on one line.
use Rattle.std.proofs.Common.{◌≡◌, ◌==◌, ℕ, Bool, true, false, if◌then◌else◌, map, chars, encode_utf8, encode_utf8_all, List, [], ◌∷◌, ◌++◌, refl, sym, ap, ◌∙◌, append-nil}
use Rattle.std.specs.Str.{IsUtf8}
use Rattle.std.proofs.lemmas.List.{map-append}
use Rattle.std.proofs.lemmas.Str.{chars-encodes, encodes-append, scalars-chars}
use lib.Utf8.{scalar, scalars}
use Rattle.tabled_clean.specs.Line.{cleaned_line, in_line, on_one_line}
use Rattle.tabled_clean.specs.Steering.{without_steering}
use Rattle.tabled_clean.proofs.SteeringLemmas.{both_true, characters_of_cleaned, first_of, rest_of, scalars_kept}

-- a character more is written on a line
pub written_more : (done : List ℕ) (character shown : ℕ) (old new : List ℕ) → new ≡ old ++ encode_utf8 shown → shown ≡ in_line character
    → old ≡ encode_utf8_all (map in_line done) → new ≡ encode_utf8_all (map in_line (done ++ character ∷ []))
written_more done character shown old new pushed is before =
    pushed ∙ (λ i. before i ++ encode_utf8 (is i))
    ∙ ap (λ last. encode_utf8_all (map in_line done) ++ last) (sym (append-nil (encode_utf8 (in_line character))))
    ∙ sym (ap encode_utf8_all (map-append in_line done (character ∷ [])) ∙ encodes-append (map in_line done) (in_line character ∷ []))

-- the characters of a text on one line
scalar_by : (b : Bool) (c : ℕ) → scalar c ≡ true → scalar (if b then 0x240A else c) ≡ true
scalar_by true c e = refl
scalar_by false c e = e

scalars_in_line : (cs : List ℕ) → scalars cs ≡ true → scalars (map in_line cs) ≡ true
scalars_in_line [] e = refl
scalars_in_line (c ∷ cs) e = both_true (scalar (in_line c)) (scalars (map in_line cs)) (scalar_by (c == 10) c (first_of (scalar c) (scalars cs) e)) (scalars_in_line cs (rest_of (scalar c) (scalars cs) e))

pub characters_of_line : (text : List ℕ) → IsUtf8 text → chars (cleaned_line text) ≡ on_one_line (chars text)
unfolding cleaned_line
characters_of_line text u =
    let clean = characters_of_cleaned text u in
    ap (λ cs. chars (encode_utf8_all (map in_line cs))) clean
    ∙ chars-encodes (on_one_line (chars text)) (scalars_in_line (without_steering (chars text)) (scalars_kept (chars text) (scalars-chars text u)))

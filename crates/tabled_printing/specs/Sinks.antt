-- What marks are put into.
use Rattle.std.specs.Prelude.{◌≡◌, ℕ, ◌+◌, ⊤, List, [], ◌++◌, map, take, length, Result, MatchResult, string_bytes, encode_utf8_all}
use Rattle.std.specs.declared.string.String.{String}
use Rattle.std.specs.declared.vec.Vec.{Vec}
use Rattle.std.proofs.Common.{◌≤◌, ap, sym, refl, ◌∙◌, append_assoc, arith, length-append}
use Rattle.std.proofs.lemmas.List.{append-nil, map-append, take-take, take_at}
use Rattle.std.proofs.lemmas.Str.{encodes-append}
use Rattle.tabled_printing.specs.declared.mark.Mark.{Mark}
use Rattle.tabled_printing.specs.declared.mark.Run.{Run}
use Rattle.tabled_printing.specs.Picture.{Shown, character, text_marked}
use Rattle.tabled_printing.specs.Marks.{mark_of, marks_of}

-- after a call that puts marks into something: where it succeeds these were put, and where it is refused it left what a refusal may leave
abbrev pub Put : {T E S : Type 0} → (List Shown → S → S → Type 0) → (S → S → Type 0) → Result T E → List Shown → S → S → Type 0
Put puts leaves result marks old new = MatchResult result (λ _. puts marks old new) (λ _. leaves old new)

-- a text has gained the characters of the marks, a list of marks the marks themselves, a list of runs runs of these marks, and a number
-- how many they are
abbrev pub text_gains : {Z : Type 0} → List Shown → String Z → String Z → Type 0
text_gains marks old new = string_bytes new ≡ string_bytes old ++ text_marked marks

abbrev pub marks_gained : {W : Type 0} → List Shown → Vec Mark W → Vec Mark W → Type 0
marks_gained marks old new = map mark_of new.items ≡ map mark_of old.items ++ marks

abbrev pub runs_gained : {W : Type 0} → List Shown → Vec Run W → Vec Run W → Type 0
runs_gained marks old new = marks_of new.items ≡ marks_of old.items ++ marks

abbrev pub number_gains : List Shown → ℕ → ℕ → Type 0
number_gains marks old new = new ≡ old + length marks

-- a refusal leaves a text that begins as it did, and of the others it is not said
abbrev pub text_kept : {Z : Type 0} → String Z → String Z → Type 0
text_kept old new = take (length (string_bytes old)) (string_bytes new) ≡ string_bytes old

abbrev pub anything : {S : Type 0} → S → S → Type 0
anything old new = ⊤

-- two parts in a row are one part
both_parts : {A : Type 0} (start first second x y : List A) → first ≡ start ++ x → second ≡ first ++ y → second ≡ start ++ (x ++ y)
both_parts start first second x y p q = q ∙ ap (λ xs. xs ++ y) p ∙ append_assoc start x y

pub text_of_both : (ms ns : List Shown) → text_marked (ms ++ ns) ≡ text_marked ms ++ text_marked ns
text_of_both ms ns =
    ap (λ shown. encode_utf8_all (map character shown)) (map-append (λ mark. mark.0) ms ns)
    ∙ ap encode_utf8_all (map-append character (map (λ mark. mark.0) ms) (map (λ mark. mark.0) ns))
    ∙ encodes-append (map character (map (λ mark. mark.0) ms)) (map character (map (λ mark. mark.0) ns))

-- of each of these: nothing put changes nothing, marks put in turn are put, and a refusal after marks were put is one
pub text_none : {Z : Type 0} (text : String Z) → text_gains [] text text
text_none text = sym (append-nil (string_bytes text))

pub text_both : {Z : Type 0} (ms ns : List Shown) (old between new : String Z) → text_gains ms old between → text_gains ns between new → text_gains (ms ++ ns) old new
text_both ms ns old between new p q =
    both_parts (string_bytes old) (string_bytes between) (string_bytes new) (text_marked ms) (text_marked ns) p q
    ∙ ap (λ bytes. string_bytes old ++ bytes) (sym (text_of_both ms ns))

pub text_kept_after : {Z : Type 0} (ms : List Shown) (old between new : String Z) → text_gains ms old between → text_kept between new → text_kept old new
text_kept_after ms old between new p q =
    let longer : length (string_bytes old) ≤ length (string_bytes between) = omega (arith, length-append (string_bytes old) (text_marked ms), ap length p) in
    sym (take-take (length (string_bytes old)) (length (string_bytes between)) (string_bytes new) longer)
    ∙ ap (take (length (string_bytes old))) (q ∙ p) ∙ take_at (string_bytes old) (text_marked ms) (length (string_bytes old)) refl

pub marks_none : {W : Type 0} (marks : Vec Mark W) → marks_gained [] marks marks
marks_none marks = sym (append-nil (map mark_of marks.items))

pub marks_both : {W : Type 0} (ms ns : List Shown) (old between new : Vec Mark W) → marks_gained ms old between → marks_gained ns between new → marks_gained (ms ++ ns) old new
marks_both ms ns old between new p q = both_parts (map mark_of old.items) (map mark_of between.items) (map mark_of new.items) ms ns p q

pub runs_none : {W : Type 0} (runs : Vec Run W) → runs_gained [] runs runs
runs_none runs = sym (append-nil (marks_of runs.items))

pub runs_both : {W : Type 0} (ms ns : List Shown) (old between new : Vec Run W) → runs_gained ms old between → runs_gained ns between new → runs_gained (ms ++ ns) old new
runs_both ms ns old between new p q = both_parts (marks_of old.items) (marks_of between.items) (marks_of new.items) ms ns p q

pub number_none : (n : ℕ) → number_gains [] n n
number_none n = omega arith

pub number_both : (ms ns : List Shown) (old between new : ℕ) → number_gains ms old between → number_gains ns between new → number_gains (ms ++ ns) old new
number_both ms ns old between new p q = omega (arith, p, q, length-append ms ns)

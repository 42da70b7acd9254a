-- What text without colors is written into.
use Rattle.std.specs.Prelude.{◌≡◌, ℕ, List, [], ◌++◌, string_bytes}
use Rattle.std.specs.declared.string.String.{String}
use Rattle.std.proofs.Common.{ap, sym, ◌∙◌, append_assoc}
use Rattle.std.proofs.lemmas.List.{append-nil}

-- a text has gained these bytes
abbrev pub text_gains : {Z : Type 0} → List ℕ → String Z → String Z → Type 0
text_gains bytes old new = string_bytes new ≡ string_bytes old ++ bytes

-- nothing written changes nothing, and what is written in turn is written
pub text_none : {Z : Type 0} (text : String Z) → text_gains [] text text
text_none text = sym (append-nil (string_bytes text))

pub text_both : {Z : Type 0} (xs ys : List ℕ) (old between new : String Z) → text_gains xs old between → text_gains ys between new → text_gains (xs ++ ys) old new
text_both xs ys old between new p q = q ∙ ap (λ bytes. bytes ++ ys) p ∙ append_assoc (string_bytes old) xs ys

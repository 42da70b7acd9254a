-- Lines that take as many columns as the others take no more than one that is as wide.
use Rattle.std.proofs.Common.{◌≡◌, ◌==◌, ℕ, ◌≤◌, nat_le, Bool, true, List, [], ◌∷◌, refl, arith, Result, Ok, Err, IfOk}
use Rattle.std.specs.List.{list_all}
use Rattle.std.proofs.lemmas.Bool.{and_from, and_parts, eqb-true, le-leb}
use Rattle.tabled_width.specs.Texts.{width_of_text}

pub if_ok : {T E : Type 0} {P Q : T → Type 0} (r : Result T E) → ((x : T) → P x → Q x) → IfOk r P → IfOk r Q
if_ok (Ok x) f h = f x h
if_ok (Err e) f h = tt

pub lines_within : (width total : ℕ) (lines : List (List ℕ)) → width ≤ total → list_all (λ line. width_of_text line == width) lines ≡ true → list_all (λ line. nat_le (width_of_text line) total) lines ≡ true
lines_within width total [] most all = refl
lines_within width total (line ∷ lines) most all =
    let here : Bool = width_of_text line == width in
    let rest : Bool = list_all (λ line. width_of_text line == width) lines in
    let both : (here ≡ true) × (rest ≡ true) = and_parts here rest all in
    let same : width_of_text line ≡ width = eqb-true (width_of_text line) width both.0 in
    and_from (nat_le (width_of_text line) total) (list_all (λ line. nat_le (width_of_text line) total) lines)
    (le-leb (width_of_text line) total (omega (arith, same, most))) (lines_within width total lines most both.1)

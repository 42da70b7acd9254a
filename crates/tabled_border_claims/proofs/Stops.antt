-- What follows spaces up to a stop adds its width to theirs.
use Rattle.std.proofs.Common.{◌≡◌, ℕ, ◌+◌, ◌-◌, ◌%◌, ◌<◌, ◌≤◌, false, List, [], ◌∷◌, ◌++◌, replicate, chars, sym, ap, subst, ◌∙◌, arith, append_assoc}
use Rattle.std.specs.Str.{IsUtf8}
use Rattle.std.proofs.lemmas.List.{replicate_more}
use Rattle.std.proofs.lemmas.Str.{IsUtf8-append, IsUtf8-from_ascii, chars-append, chars-IsAscii}
use Rattle.unicode_width.specs.Width.{str_width}
use Rattle.tabled_width.specs.Texts.{width_of_text}
use Rattle.tabled_width.specs.Tabs.{spaces_to_stop, up_to_stop}
use Rattle.tabled_width.proofs.Printing.{printable_ascii}
use Rattle.tabled_width.proofs.AfterSpace.{IsUtf8-spaces, one_space, widths_add}
use Rattle.tabled_width.proofs.TabLemmas.{width_and_spaces}

last_space : (n : ℕ) (front text : List ℕ) → (front ++ replicate (n + 1) 32) ++ text ≡ (front ++ replicate n 32) ++ 32 ∷ text
last_space n front text =
    ap (λ spaces. (front ++ spaces) ++ text) (sym (replicate_more n 32))
    ∙ ap (λ bs. bs ++ text) (sym (append_assoc front (replicate n 32) (32 ∷ []))) ∙ append_assoc (front ++ replicate n 32) (32 ∷ []) text

spaced_adds : (n : ℕ) (front text : List ℕ) → IsUtf8 front → width_of_text ((front ++ replicate (n + 1) 32) ++ text) ≡ width_of_text (front ++ replicate (n + 1) 32) + width_of_text text
spaced_adds n front text u =
    let apart = ap width_of_text (last_space n front text) ∙ widths_add (front ++ replicate n 32) text (IsUtf8-append front (replicate n 32) u (IsUtf8-spaces n)) in
    let after = one_space text in
    let fewer = width_and_spaces front n u in
    let whole = width_and_spaces front (n + 1) u in
    omega (arith, apart, after, fewer, whole)

pub stop_adds : (every : ℕ) (front text : List ℕ) → 1 ≤ every → IsUtf8 front → width_of_text (up_to_stop every front ++ text) ≡ width_of_text (up_to_stop every front) + width_of_text text
stop_adds every front text some u =
    let count : spaces_to_stop every front ≡ (spaces_to_stop every front - 1) + 1 = omega (arith, some) in
    subst (λ n. width_of_text ((front ++ replicate n 32) ++ text) ≡ width_of_text (front ++ replicate n 32) + width_of_text text) (sym count)
    (spaced_adds (spaces_to_stop every front - 1) front text u)

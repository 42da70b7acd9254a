-- The name stands at the start, or in the rest.
use Rattle.std.proofs.Common.{◌≡◌, ℕ, ◌-◌, ◌<◌, ◌≤◌, true, false, ◌||◌, List, [], ◌∷◌, length, take, drop, refl, ap, sym, ◌∙◌, arith}
use Rattle.std.proofs.lemmas.List.{take_all}
use Rattle.tabled_request.specs.Surroundings.{begins_with_utf8, names_utf8}
use Rattle.tabled_request.proofs.surroundings.names_utf8.Goals as goal

at_start : (text : List ℕ) → 1 ≤ length text → true ≡ begins_with_utf8 text → true ≡ names_utf8 text
unfolding names_utf8
at_start [] some e = absurd (omega (arith, some))
at_start (b ∷ bs) some e = ap (λ begins. begins || names_utf8 bs) e

in_rest : (text : List ℕ) → 1 ≤ length text → false ≡ begins_with_utf8 text → names_utf8 (take (length text - 1) (drop 1 text)) ≡ names_utf8 text
unfolding names_utf8
in_rest [] some e = absurd (omega (arith, some))
in_rest (b ∷ bs) some e = ap names_utf8 (take_all (length (b ∷ bs) - 1) bs (omega arith)) ∙ ap (λ begins. begins || names_utf8 bs) e

nowhere : (text : List ℕ) → length text < 1 → false ≡ names_utf8 text
unfolding names_utf8
nowhere [] none = refl
nowhere (b ∷ bs) none = absurd (omega (arith, none))

pub returns-then-begins_with_utf8 : goal.returns-then-begins_with_utf8
returns-then-begins_with_utf8 c =
    at_start c.loop-rest.rest.now c.in-len1-up.len_at_least (sym c.if-begins_with_utf8.true ∙ c.begins_with_utf8.ensures) ∙ c.loop-rest.invariant

pub loop-rest-preserved : goal.loop-rest-preserved
loop-rest-preserved c =
    in_rest c.loop-rest.rest.now c.in-len1-up.len_at_least (sym c.if-begins_with_utf8.false ∙ c.begins_with_utf8.ensures) ∙ c.loop-rest.invariant

pub returns : goal.returns
returns c = nowhere c.loop-rest.rest.now c.in_default.len_below ∙ c.loop-rest.invariant

-- One word more.
use Rattle.std.proofs.Common.{ℕ, ◌≤◌, [], List, length, map, string_bytes, subst, arith}
use Rattle.std.proofs.lemmas.List.{get_or-map, length-map, length-take}
use Rattle.std.proofs.lemmas.List.Elements.{All-get_or, All-map, All-push, All-same}
use Rattle.std.specs.List.{All}
use Rattle.std.specs.declared.string.String.{String}
use Rattle.tabled_request.specs.declared.given.TheConstants.{WORD_LIMIT}
use Rattle.tabled_request.proofs.given.all_words.Goals as goal

IsShort : List ℕ → Type 0
IsShort word = length word ≤ WORD_LIMIT

by_bytes : {Z : Type 0} (words : List (String Z)) → All IsShort (map string_bytes words) → All (λ word. IsShort (string_bytes word)) words
by_bytes words short k word inside =
    subst IsShort (get_or-map string_bytes words k word [] inside)
    (All-get_or IsShort (map string_bytes words) k [] (omega (arith, length-map words string_bytes, inside)) short)

pub loop-place-preserved : goal.loop-place-preserved
unfolding IsShort
loop-place-preserved g c =
    by_bytes c.keep_word.new.words.items
    (All-same IsShort _ _ c.in_ok-keep_word-in-Ok.ensures.kept
    (All-push IsShort _ _ (All-map IsShort string_bytes c.loop-place.words.items c.loop-place.invariant) (omega (arith, c.in-Ok.ensures.bound, length-take c.in-Ok.length c.arg.new.buf))))

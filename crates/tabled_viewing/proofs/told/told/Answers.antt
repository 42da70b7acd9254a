-- All characters are written.
use Rattle.std.proofs.Common.{◌++◌, ◌∷◌, [], map, sym, ap, ◌∙◌, append-nil, map-id, encode_utf8, encode_utf8_all, chars}
use Rattle.std.proofs.lemmas.List.{map-append}
use Rattle.std.proofs.lemmas.Str.{encodes-append}
use Rattle.std.proofs.lemmas.Iterator.{YieldsList-from_chars}
use Rattle.std.proofs.lemmas.Iterator.Consumers.{YieldsList-end}
use Rattle.tabled_viewing.specs.Told.{seen, told}
use Rattle.tabled_viewing.proofs.told.told.Goals as goal

pub loop-character-preserved : goal.loop-character-preserved
loop-character-preserved c =
    c.in_ok-push.ensures.bytes ∙ (λ i. c.loop-character.invariant i ++ encode_utf8 (c.seen.ensures i))
    ∙ ap (λ last. encode_utf8_all (map seen c.loop-character.yielded) ++ last) (sym (append-nil (encode_utf8 (seen c.in-Some.character))))
    ∙ sym (ap encode_utf8_all (map-append seen c.loop-character.yielded (c.in-Some.character ∷ [])) ∙ encodes-append (map seen c.loop-character.yielded) (seen c.in-Some.character ∷ []))

pub returns : goal.returns
unfolding told
returns c =
    let all = YieldsList-end (YieldsList-from_chars c.deref.result.now c.deref.utf8 cc) c.loop-character.yielded _ c.loop-character.yielded_by _ _ c.in-None.is c.next.ensures.steps in
    c.loop-character.invariant
    ∙ ap (λ cs. encode_utf8_all (map seen cs)) (sym (map-id c.loop-character.yielded) ∙ all.0 ∙ ap chars (c.deref.ensures ∙ c.in_ok-line.ensures))

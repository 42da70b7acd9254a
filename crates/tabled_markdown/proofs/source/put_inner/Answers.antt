-- All characters are put.
use Rattle.std.proofs.Common.{◌++◌, ◌∷◌, [], encode_utf8_all, string_bytes, sym, ap, ◌∙◌, append_assoc, append-nil, map-id}
use Rattle.std.proofs.lemmas.Iterator.{YieldsList-from_chars}
use Rattle.std.proofs.lemmas.Iterator.Consumers.{YieldsList-end}
use Rattle.std.proofs.lemmas.Str.{encodes-chars}
use Rattle.tabled_markdown.specs.Source.{source_after}
use Rattle.tabled_markdown.proofs.source.put_inner.Goals as goal

pub loop-character-preserved : goal.loop-character-preserved
loop-character-preserved c = λ more.
    c.in_ok-put.ensures (encode_utf8_all more) ∙ c.loop-character.invariant (c.in-Some.character ∷ more)
    ∙ ap (λ cs. string_bytes c.args.written.now ++ source_after 32 (encode_utf8_all cs)) (sym (append_assoc c.loop-character.yielded (c.in-Some.character ∷ []) more))

pub returns : goal.returns
returns c =
    let all = YieldsList-end (YieldsList-from_chars c.args.text.now c.utf8.text cc) c.loop-character.yielded _ c.loop-character.yielded_by _ _ c.in-None.is c.next.ensures.steps in
    sym (append-nil _) ∙ c.loop-character.invariant []
    ∙ ap (λ cs. string_bytes c.args.written.now ++ source_after 32 (encode_utf8_all cs)) (append-nil c.loop-character.yielded ∙ sym (map-id c.loop-character.yielded) ∙ all.0)
    ∙ ap (λ bs. string_bytes c.args.written.now ++ source_after 32 bs) (encodes-chars c.args.text.now c.utf8.text)

-- All characters are written.
use Rattle.std.proofs.Common.{◌++◌, [], false, sym, ap, ◌∙◌, map-id, append-nil}
use Rattle.std.proofs.lemmas.Iterator.{YieldsList-from_chars}
use Rattle.std.proofs.lemmas.Iterator.Consumers.{YieldsList-end}
use Rattle.tabled_clean.specs.Steering.{going_on, cleaned}
use Rattle.tabled_clean.proofs.cleaning.written.Goals as goal

pub returns : goal.returns
unfolding cleaned
returns c =
    let all = YieldsList-end (YieldsList-from_chars c.args.text.now c.utf8.text cc) c.loop-character.yielded _ c.loop-character.yielded_by _ _ c.in-None.is c.next.ensures.steps in
    c.in_ok-end.ensures ∙ c.loop-character.invariant [] ∙ ap (λ bs. going_on bs false (c.loop-character.yielded ++ [])) c.new-clean.ensures.bytes
    ∙ ap (λ cs. going_on [] false (cs ++ [])) (sym (map-id c.loop-character.yielded) ∙ all.0) ∙ ap (λ cs. going_on [] false cs) (append-nil _)

-- All characters are written.
use Rattle.std.proofs.Common.{map, sym, ap, ◌∙◌, map-id, encode_utf8_all, chars}
use Rattle.std.proofs.lemmas.Iterator.{YieldsList-from_chars}
use Rattle.std.proofs.lemmas.Iterator.Consumers.{YieldsList-end}
use Rattle.tabled_clean.specs.Line.{in_line, cleaned_line}
use Rattle.tabled_clean.proofs.LineLemmas.{written_more}
use Rattle.tabled_clean.proofs.line.cleaned_line.Goals as goal

pub loop-character-preserved : goal.loop-character-preserved
loop-character-preserved c = written_more c.loop-character.yielded c.in-Some.character c.in_line.result _ _ c.in_ok-push.ensures.bytes c.in_line.ensures c.loop-character.invariant

pub returns : goal.returns
unfolding cleaned_line
returns c =
    let all = YieldsList-end (YieldsList-from_chars c.deref.result.now c.deref.utf8 cc) c.loop-character.yielded _ c.loop-character.yielded_by _ _ c.in-None.is c.next.ensures.steps in
    c.loop-character.invariant
    ∙ ap (λ cs. encode_utf8_all (map in_line cs)) (sym (map-id c.loop-character.yielded) ∙ all.0 ∙ ap chars (c.deref.ensures ∙ c.in_ok-clean.ensures))

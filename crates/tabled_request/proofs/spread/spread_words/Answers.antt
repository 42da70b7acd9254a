-- Word after word.
use Rattle.std.proofs.Common.{◌++◌, map, string_bytes, ap, ◌∙◌, arith}
use Rattle.tabled_request.specs.Words.{after, parts}
use Rattle.tabled_request.proofs.WordByWord.{spread_all, spread_more}
use Rattle.tabled_request.proofs.spread.spread_words.Goals as goal

pub loop-word-preserved : goal.loop-word-preserved
loop-word-preserved c =
    spread_more c.args.words.now c.loop-word.next c.after-next.result _ _ c.loop-word.word-index _ c.loop-word-test.true c.word-item.is
    (c.in_ok-put_parts.ensures ∙ ap (λ text. map string_bytes c.loop-word.all.items ++ parts c.loop-word.next text) c.as_str.ensures.value)
    (c.after-next.ensures ∙ ap (after c.loop-word.next) c.as_str-in-loop-word.ensures.value)
    ∙ c.loop-word.invariant

pub returns : goal.returns
returns c = spread_all c.args.words.now c.loop-word.next _ c.loop-word.word-index (omega (arith, c.loop-word-test.false)) ∙ c.loop-word.invariant

-- Word after word.
use Rattle.std.proofs.Common.{false, map, string_bytes, ap, ◌∙◌, arith}
use Rattle.tabled_request.specs.declared.spread.Next.TheVariants.{Any}
use Rattle.tabled_request.specs.Words.{after, request_of, with_word, words_read}
use Rattle.tabled_request.proofs.WordByWord.{passed_on, read_more, read_wrong, read_all}
use Rattle.tabled_request.proofs.words.read_words.Goals as goal

pub loop-n-init : goal.loop-n-init
unfolding request_of
loop-n-init c = ap (λ request. words_read Any (record { request = request; has_file = false }) 0 (map string_bytes c.args.words.now)) c.of_no_words.ensures

pub returns-in_err-reading : goal.returns-in_err-reading
returns-in_err-reading c =
    passed_on c.from_residual.result c.in_err-reading.field-0.0 c.from_residual.ensures.1
    ∙ read_wrong c.args.words.now c.loop-n.next c.loop-n.reading c.in_err-reading.field-0.0 c.loop-n.n _ c.loop-n-test.true c.index-words-n.is
    (c.in_err-reading.ensures ∙ ap (λ text. with_word c.loop-n.next c.loop-n.n text c.loop-n.reading) c.as_str.ensures.value)
    ∙ c.loop-n.invariant

pub loop-n-preserved : goal.loop-n-preserved
loop-n-preserved c =
    read_more c.args.words.now c.loop-n.next c.after-next.result c.loop-n.reading c.in_ok-reading.reading c.loop-n.n _ c.loop-n-test.true c.index-words-n.is
    (c.in_ok-reading.ensures ∙ ap (λ text. with_word c.loop-n.next c.loop-n.n text c.loop-n.reading) c.as_str.ensures.value)
    (c.after-next.ensures ∙ ap (after c.loop-n.next) c.as_str-in-loop-n.ensures.value)
    ∙ c.loop-n.invariant

pub returns : goal.returns
returns c = c.at_end.ensures ∙ read_all c.args.words.now c.loop-n.next c.loop-n.reading c.loop-n.n (omega (arith, c.loop-n-test.false)) ∙ c.loop-n.invariant

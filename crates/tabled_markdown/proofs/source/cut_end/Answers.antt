-- The last byte is a blank, or none.
use Rattle.std.proofs.Common.{◌≡◌, ◌++◌, ◌-◌, length, take, ap, sym, ◌∙◌, arith}
use Rattle.tabled_markdown.specs.Source.{source_after}
use Rattle.tabled_markdown.proofs.Written.{end_blank, end_other}
use Rattle.tabled_markdown.proofs.source.cut_end.Goals as goal

pub returns-in-Some : goal.returns-in-Some
returns-in-Some c =
    let text = c.args.text.now in
    let from_first : length text - 1 ≡ length text - 1 - 0 = omega arith in
    end_blank c.as_bytes.result.now c.args.text.now c.as_bytes.ensures.value (omega arith) c.in-Some.word.now c.in-Some.ensures
    ∙ ap (λ n. source_after 32 (take n text) ++ c.in-Some.word.now) from_first
    ∙ ap (λ inner. source_after 32 inner ++ c.in-Some.word.now) (sym c.range.ensures.value)

pub returns-in-None : goal.returns-in-None
returns-in-None c = end_other c.as_bytes.result.now c.args.text.now c.as_bytes.ensures.value (omega arith) c.in-None.ensures

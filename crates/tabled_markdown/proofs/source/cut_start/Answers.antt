-- The first byte is a blank, or none.
use Rattle.std.proofs.Common.{◌++◌, length, ap, sym, ◌∙◌, arith}
use Rattle.std.proofs.lemmas.Str.{IsCharBoundary-after_ascii}
use Rattle.tabled_markdown.specs.Source.{to_end}
use Rattle.tabled_markdown.proofs.Written.{first_is_ascii, start_blank, start_empty, start_other}
use Rattle.tabled_markdown.proofs.source.cut_start.Goals as goal

pub range_from-requires : goal.range_from-requires
range_from-requires c positive =
    IsCharBoundary-after_ascii c.args.text.now 0 c.utf8.text (omega (arith, ap length c.as_bytes.ensures.value)) (first_is_ascii c.as_bytes.result.now c.args.text.now c.as_bytes.ensures.value (omega arith) c.in-Some.word.now c.in-Some.ensures)

pub returns-in-Some : goal.returns-in-Some
returns-in-Some c =
    start_blank c.as_bytes.result.now c.args.text.now c.as_bytes.ensures.value (omega arith) c.in-Some.word.now c.in-Some.ensures
    ∙ ap (λ rest. c.in-Some.word.now ++ to_end 32 rest) (sym c.range_from.ensures.value)

pub returns-in-None : goal.returns-in-None
returns-in-None c = start_other c.as_bytes.result.now c.args.text.now c.as_bytes.ensures.value (omega arith) c.in-None.ensures

pub returns-in-empty : goal.returns-in-empty
returns-in-empty c = start_empty c.args.text.now (omega (arith, ap length c.as_bytes.ensures.value))

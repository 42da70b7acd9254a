-- One number more is put at the end of those before it.
use Rattle.std.proofs.Common.{arith}
use Rattle.tabled_rows.specs.Spelled.{numbers}
use Rattle.tabled_rows.proofs.SpelledLemmas.{spelled-number}
use Rattle.tabled_rows.proofs.spelled.numbered.Goals as goal

pub loop-number-preserved : goal.loop-number-preserved
loop-number-preserved c = record {
  count = omega (arith, c.in_ok-push_text.ensures.count);
  texts = spelled-number c.loop-number.number-counter _ (c.in_ok-push_text.ensures.texts (numbers c.loop-number.number-counter) c.loop-number.invariant.texts);
}

-- What the characters so far gave, and what the rest will give.
use Rattle.std.proofs.Common.{◌≡◌, ◌++◌, ℕ, List, false}
use Rattle.tabled_input.specs.Quoted.{end_at}
use Rattle.tabled_input.specs.Reading.{going_on, rows_with}
use Rattle.tabled_input.proofs.quoted.read.Given as goal

abbrev pub invariant-loop-character : goal.invariant-loop-character
invariant-loop-character l = record {
  rows : (more : List ℕ) → rows_with l.reader (going_on l.is_held more) ≡ rows_with l.initial.reader (going_on false (l.yielded ++ more));
  end : (more : List ℕ) → end_at l.reader.separator l.reader.at (going_on l.is_held more) ≡ end_at l.initial.reader.separator l.initial.reader.at (going_on false (l.yielded ++ more));
}

-- What was read before and what the last read took.
use Rattle.std.proofs.Common.{◌+◌, ◌≤◌, ◌++◌, length, arith, refl, length-append}
use Rattle.std.proofs.lemmas.List.{length-take}
use Rattle.tabled_input.proofs.Reading.{Consumes-more}
use Rattle.tabled_input.proofs.read.read_input.Goals as goal

pub returns-in_err-read_more-clause-one_past : goal.returns-in_err-read_more-clause-one_past
returns-in_err-read_more-clause-one_past g c =
    let step = c.read_more.ensures.taken in
    let before : length c.loop-input.input.items ≤ c.args.limit = omega (arith, c.loop-input.input.ok.0) in
    let more : length step.0 + length c.loop-input.input.items ≤ c.args.limit + 1 =
    omega (arith, step.2, length-take (c.min-most.result + 1) c.deref_mut.result.now, c.loop-input.input.ok.0) in
    (c.loop-input.input.items ++ step.0, Consumes-more _ _ _ _ _ _ c.loop-input.invariant.taken step.1 refl, simp length-append (omega arith))

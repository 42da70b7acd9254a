-- The lines of an input by its first one.
use Rattle.std.proofs.Common.{◌<◌, length, arith}
use Rattle.std.proofs.lemmas.Bool.Decides.{nat_tests}
use Rattle.tabled_pages.proofs.Lines.{lines_of-empty, lines_of-first}
use Rattle.tabled_pages.proofs.rows.first_line.Goals as goal

pub returns-then-is_empty-clause-none : goal.returns-then-is_empty-clause-none
returns-then-is_empty-clause-none c = lines_of-empty _ (grind (arith, nat_tests))

pub returns-else-is_empty-clause-some : goal.returns-else-is_empty-clause-some
returns-else-is_empty-clause-some c =
    let some : 0 < length c.args.input.now = grind (arith, nat_tests) in
    let first = lines_of-first c.args.input.now some in
    cc

-- All lines between two rows that are no custom ones look like the first of them.
use Rattle.std.proofs.Common.{string_bytes}
use Rattle.tabled_painting.specs.Between.{IsBetweenRows}
use Rattle.tabled_painting.proofs.AlikeLemmas.{all_between, of_that}
use Rattle.tabled_painting.proofs.table_lines.line_between.Goals as goal

pub returns-in_ok-line_written-in-Some : goal.returns-in_ok-line_written-in-Some
returns-in_ok-line_written-in-Some c text same =
    let frame = c.args.frame.now in
    let line = c.in_ok-line_written-in-Some.field-0 in
    of_that (λ text. IsBetweenRows frame (string_bytes text)) line text same
    (all_between frame c.in-Some.row (string_bytes line) c.in-Some.ensures.within.0 c.in-Some.ensures.within.1 c.in-Some.ensures.plain c.in_ok-line_written-in-Some.ensures)

-- The table has as many lines as a vertical line has places; where its sides have no room that does not matter.
use Rattle.std.proofs.Common.{length, ap, sym, ◌∙◌, arith}
use Rattle.tabled_painting.specs.Margin.{side_of, between_sides}
use Rattle.tabled_painting.proofs.MarginLemmas.{between_none, counted_none}
use Rattle.tabled_painting.proofs.PageLemmas.{counted_are}
use Rattle.tabled_painting.proofs.table_page.lines_high.Goals as goal

pub returns-then-margin-eq0-2 : goal.returns-then-margin-eq0-2
returns-then-margin-eq0-2 c lines count =
    let left = side_of c.args.margin.now.left in
    let right = side_of c.args.margin.now.right in
    counted_none left right 0 0 lines c.if-margin-eq0.true c.if-margin-eq0-2.true
    ∙ sym (between_none left right (length lines) 0 lines c.if-margin-eq0.true c.if-margin-eq0-2.true)

pub returns : goal.returns
returns c lines count =
    let left = side_of c.args.margin.now.left in
    let right = side_of c.args.margin.now.right in
    counted_are left right c.in_ok-high.high 0 lines (omega (arith, c.in_ok-high.ensures, count)) ∙ ap (λ n. between_sides left right n 0 lines) (c.in_ok-high.ensures ∙ sym count)

use Rattle.std.proofs.Common.{◌<◌, ap, sym, ◌∙◌, map, arith}
use Rattle.tabled_object.specs.Ranges.{line_of, numbers_on_step}
use Rattle.tabled_object.proofs.Stepping.{numbers_counted, no_step, stepped_none}
use Rattle.tabled_object.proofs.object.ranges.RangeIterator.new.Goals as goal

pub returns-then-step-eq0 : goal.returns-then-step-eq0
returns-then-step-eq0 c =
    ap (map (line_of c.args.are_rows)) (stepped_none 0 1 0 (omega arith) ∙ no_step c.args.start c.args.end c.args.count
    ∙ ap (λ step. numbers_on_step c.args.start c.args.end step c.args.count) (sym c.if-step-eq0.true))

pub returns : goal.returns
returns c =
    let ends = c.ends_within-next.ensures in
    let some : 0 < c.args.step = omega arith in
    ap (map (line_of c.args.are_rows))
    (numbers_counted c.args.start c.args.end c.args.step c.args.count c.ends_within-next.result.0 c.ends_within-next.result.1 some ends.in_order ends.within ends.inside ends.index)

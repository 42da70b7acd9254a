-- A line more, up to the last one.
use Rattle.std.proofs.Common.{◌≡◌, arith}
use Rattle.tabled_painting.proofs.DrawnLemmas.{answer_more, answers_are}
use Rattle.tabled_painting.proofs.drawn.lines_drawn.Goals as goal

pub loop-number-preserved : goal.loop-number-preserved
loop-number-preserved c =
    answer_more c.args.cfg.now c.args.direction c.args.count c.loop-number.number c.loop-number.lines.items _ c.line_in.result c.draws.result
    c.loop-number.invariant c.line_in.ensures c.draws.ensures.drawn c.in_ok-push.ensures.items

pub returns : goal.returns
returns c =
    let all : c.loop-number.number ≡ c.args.count = omega (arith, c.loop-number-test.false, c.loop-number.auto.number-end) in
    let both = answers_are c.args.cfg.now c.args.direction c.args.count c.loop-number.number c.loop-number.lines.items _ c.line_in-2.result c.draws-2.result all
    c.loop-number.invariant c.line_in-2.ensures c.draws-2.ensures.drawn c.in_ok-push-2.ensures.items in
    record { count = both.0; drawn = both.1 }

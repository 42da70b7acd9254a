-- One line more, or the last of those that stay.
use Rattle.std.proofs.Common.{◌∙◌, sym, arith, rules, string_bytes}
use Rattle.tabled_width.proofs.Heights.{none_stays, line_more, line_cut, line_last}
use Rattle.tabled_width.proofs.height.shortened.Goals as goal

pub returns-then-count-eq0 : goal.returns-then-count-eq0
returns-then-count-eq0 c = c.new-out.ensures.bytes ∙ sym (none_stays c.args.count c.args.suffix.now c.args.text.now c.if-count-eq0.true)

pub returns-then-left-eq1 : goal.returns-then-left-eq1
returns-then-left-eq1 c =
    line_cut c.loop-line.left c.args.suffix.now c.loop-line.rest.now c.in-Some.line.now c.in-Some.more.now (string_bytes c.loop-line.out) (string_bytes c.push_str.new.self) _ _
    c.if-left-eq1.true c.in-Some.ensures.pieces c.in_ok-push_str.ensures.bytes c.in_ok-push_str-2.ensures.bytes c.loop-line.invariant.written

pub loop-line-preserved : goal.loop-line-preserved
loop-line-preserved c = record {
  text = search rules;
  some = omega arith;
  written = line_more c.loop-line.left c.args.suffix.now c.loop-line.rest.now c.in-Some.line.now c.in-Some.more.now (string_bytes c.loop-line.out) (string_bytes c.push_str.new.self) (string_bytes c.push.new.self) _
      (omega arith) c.in-Some.ensures.pieces c.in_ok-push_str.ensures.bytes c.in_ok-push.ensures.bytes c.loop-line.invariant.written;
}

pub returns : goal.returns
returns c =
    line_last c.loop-line.left c.args.suffix.now c.loop-line.rest.now (string_bytes c.loop-line.out) _ _
    c.loop-line.invariant.some c.in_default.ensures.pieces c.in_ok-push_str-3.ensures.bytes c.loop-line.invariant.written

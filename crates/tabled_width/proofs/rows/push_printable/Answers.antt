-- One row more, or the last.
use Rattle.std.proofs.Common.{rules, ap, ◌∙◌, arith, string_bytes}
use Rattle.std.specs.List.{list_all}
use Rattle.tabled_width.specs.Texts.{is_printable}
use Rattle.tabled_width.proofs.PrintableRows.{dropped_printable, row_more, row_last}
use Rattle.tabled_width.proofs.rows.push_printable.Goals as goal

pub loop-rest-preserved : goal.loop-rest-preserved
loop-rest-preserved c = record {
  text = search rules;
  printable = ap (list_all is_printable) c.range_from-rest.ensures.value ∙ dropped_printable c.max-count.result c.loop-rest.rest.now c.loop-rest.invariant.printable;
  filled = row_more c.args.width (string_bytes c.loop-rest.out) c.range.result.now (string_bytes c.push_str.new.self) (string_bytes c.push.new.self) _
      c.loop-rest.rest.now c.range_from-rest.result.now c.max-count.result c.max-count.ensures c.loop-rest-test.true c.loop-rest.invariant.printable
      c.range.ensures.value c.range_from-rest.ensures.value c.in_ok-push_str.ensures.bytes c.in_ok-push.ensures.bytes c.loop-rest.invariant.filled;
}

pub returns : goal.returns
returns c =
    row_last c.args.width (string_bytes c.loop-rest.out) _ _ c.loop-rest.rest.now (omega (arith, c.max-count.ensures, c.loop-rest-test.false)) c.loop-rest.invariant.printable
    c.in_ok-push_str-2.ensures.bytes c.loop-rest.invariant.filled

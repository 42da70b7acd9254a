-- One column more is wide enough, and its text is of UTF-8.
use Rattle.std.proofs.Common.{rules, map}
use Rattle.std.specs.Str.{IsUtf8}
use Rattle.tabled_measure.specs.Sizes.{cell}
use borrow.Author.Count.{below_more}
use Rattle.tabled_measure.proofs.measure.widen.Goals as goal

pub loop-col-preserved : goal.loop-col-preserved
loop-col-preserved g c = record {
  done = search rules;
  left = search rules;
  fits = search rules;
  utf8 = below_more (λ k. IsUtf8 (cell (map g.T.AsStr.text c.args.row.now) k)) c.loop-col.col c.loop-col.invariant.utf8 c.measure_at.ensures.utf8;
  printable = search rules;
}

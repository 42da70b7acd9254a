-- The marks are those of the lines, one by one or by rank.
use Rattle.std.proofs.Common.{◌+◌, length, option_map, ap, sym, ◌∙◌}
use Rattle.std.proofs.lemmas.List.{length-map}
use Rattle.std.proofs.lemmas.List.FromFn.{length-map-range_with_len}
use Rattle.tabled_printing.specs.Beside.{plain_side}
use Rattle.tabled_printing.specs.SideMarks.{side_mark}
use Rattle.tabled_printing.proofs.AlikeLemmas.{none_on, ranked_sides}
use Rattle.tabled_printing.proofs.sides.RowSides.of.Goals as goal

pub returns-then-by_rank-clause-sides : goal.returns-then-by_rank-clause-sides
returns-then-by_rank-clause-sides c = record {
  marks = λ col within.
      ranked_sides c.args.cfg.now c.args.with_colors c.args.shape c.kept_side-first.result c.kept_side-inner.result c.kept_side-end.result col (c.requires.cells c.if-by_rank.true) (c.requires.columns c.if-by_rank.true)
      c.kept_side-first.ensures.mark c.kept_side-inner.ensures.mark c.kept_side-end.ensures.mark within;
  alike = λ col within side read alike. none_on c.args.cfg.now c.args.with_colors c.args.shape.0 col (c.requires.cells c.if-by_rank.true);
}

pub invariant_of-result-2 : goal.invariant_of-result-2
invariant_of-result-2 c = record {
  counted =
      sym (length-map c.in_ok-marks.marks.items (option_map side_mark)) ∙ ap length c.in_ok-marks.ensures.marks
      ∙ length-map-range_with_len (plain_side c.args.cfg.now c.args.with_colors c.args.shape) 0 (c.args.shape.1 + 1);
}

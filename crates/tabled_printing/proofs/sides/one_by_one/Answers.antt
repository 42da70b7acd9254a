-- One side more, and the last one.
use Rattle.std.proofs.Common.{◌+◌, [], ◌∷◌, length, refl, sym, ap, subst, ◌∙◌, arith}
use Rattle.std.specs.Option.{ForSome}
use Rattle.std.proofs.lemmas.List.{length-append}
use Rattle.tabled_printing.specs.Beside.{plain_side}
use Rattle.tabled_printing.specs.SideMarks.{IsAlikeSide}
use Rattle.tabled_printing.proofs.AlikeLemmas.{alike_more, side_more}
use Rattle.tabled_printing.proofs.sides.one_by_one.Goals as goal

pub loop-col-preserved : goal.loop-col-preserved
loop-col-preserved c =
    let counted = c.loop-col.invariant.counted in
    record {
      counted = ap length c.in_ok-push.ensures.items ∙ length-append c.loop-col.sides.items (c.kept_side.result ∷ []) ∙ ap (λ n. n + 1) counted;
      marks = side_more (plain_side c.args.cfg.now c.args.with_colors c.args.shape) c.loop-col.sides.items _ _ c.loop-col.col c.loop-col.col refl c.in_ok-push.ensures.items c.loop-col.invariant.marks c.kept_side.ensures.mark;
      alike =
          alike_more c.args.cfg.now c.args.with_colors c.args.shape.0 c.loop-col.sides.items _ c.kept_side.result c.in_ok-push.ensures.items
          (subst (λ n. ForSome c.kept_side.result (IsAlikeSide c.args.cfg.now c.args.with_colors c.args.shape.0 n)) (sym counted) c.kept_side.ensures.alike) c.loop-col.invariant.alike;
    }

pub returns-clause-marks : goal.returns-clause-marks
returns-clause-marks c =
    side_more (plain_side c.args.cfg.now c.args.with_colors c.args.shape) c.loop-col.sides.items _ _ c.args.shape.1 c.loop-col.col (omega arith) c.in_ok-push-2.ensures.items c.loop-col.invariant.marks c.kept_side-2.ensures.mark

pub returns-clause-alike : goal.returns-clause-alike
returns-clause-alike c =
    alike_more c.args.cfg.now c.args.with_colors c.args.shape.0 c.loop-col.sides.items _ c.kept_side-2.result c.in_ok-push-2.ensures.items
    (subst (λ n. ForSome c.kept_side-2.result (IsAlikeSide c.args.cfg.now c.args.with_colors c.args.shape.0 n)) (let counted = c.loop-col.invariant.counted in omega (arith, counted)) c.kept_side-2.ensures.alike) c.loop-col.invariant.alike

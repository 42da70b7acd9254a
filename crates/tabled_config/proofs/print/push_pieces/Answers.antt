-- A side and a piece are one more step along the line, and one more text has lost its piece.
use Rattle.std.proofs.Common.{ℕ, ◌<◌, List, [], ◌++◌, length, ap, sym, ◌∙◌, slice_index_or, arith}
use Rattle.tabled_printing.specs.Pieces.{lent, first_piece}
use Rattle.tabled_printing.specs.Picture.{text_shown, side_shown}
use Rattle.tabled_printing.specs.Viewed.{frame_look}
use Rattle.tabled_config.proofs.PieceLemmas.{not_cut, cut_more}
use Rattle.tabled_config.proofs.TextLemmas.{piece_more, written_both}
use Rattle.tabled_config.proofs.print.push_pieces.Goals as goal

pub loop-col-preserved : goal.loop-col-preserved
loop-col-preserved g c =
    let side : ℕ → List ℕ = λ n. text_shown (side_shown (frame_look g.D.Dimension.width_of g.D.Dimension.height_of c.args.frame.now) c.args.row c.args.at n) in
    let within : c.loop-col.col < length c.loop-col.rests = omega (arith, c.loop-col.auto.rests, c.requires.rests, c.loop-col-test.true) in
    record {
      written =
          written_both _ _ _ _ _ _ _ _ c.loop-col.invariant.written c.in_ok-push_side.ensures c.in_ok-push_str.ensures.bytes
          (piece_more (λ n. side n ++ first_piece (slice_index_or (lent c.args.rests.now) n [])) c.loop-col.col (side c.loop-col.col) c.cut.result.0.now
          (ap (λ bs. side c.loop-col.col ++ bs) (ap first_piece (sym (not_cut c.loop-col.col (lent c.args.rests.now) c.loop-col.rests _ c.loop-col.invariant.cut_below within)) ∙ sym c.cut.ensures.piece)));
      cut_below = cut_more c.loop-col.col (lent c.args.rests.now) c.loop-col.rests _ c.cut.result.1 c.loop-col.invariant.cut_below within c.cut.ensures.rest;
    }

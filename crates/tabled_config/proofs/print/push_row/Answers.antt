-- One more line of text, the line feed that ends it, and one more piece that is taken.
use Rattle.std.proofs.Common.{ℕ, List, ◌++◌, [], length, map, drop, get_or, ap, ◌∙◌, string_bytes}
use Rattle.std.proofs.lemmas.List.{take_at}
use Rattle.tabled_width.specs.Texts.{pieces}
use Rattle.tabled_printing.specs.Pieces.{lent, first_piece, after_first_piece}
use Rattle.tabled_printing.specs.Picture.{Look, line_of_pieces, row_line}
use Rattle.tabled_printing.specs.Viewed.{frame_look}
use Rattle.tabled_config.proofs.PieceLemmas.{rests_more, line_of_rests}
use Rattle.tabled_config.proofs.TextLemmas.{line_fed, ended_more, written_both}
use Rattle.tabled_config.proofs.print.push_row.Goals as goal

pub loop-at-preserved : goal.loop-at-preserved
loop-at-preserved g c =
    let view : Look = frame_look g.D.Dimension.width_of g.D.Dimension.height_of c.args.frame.now in
    let cells : List (List ℕ) = map string_bytes c.args.cells.now in
    let at = c.loop-at.at in
    let kept = take_at c.push_pieces.new.rests (drop (length c.push_pieces.new.rests) c.loop-at.rests.items) c.loop-at.rests.len (c.push_pieces.auto.rests ∙ c.deref_mut.ensures.len) in
    let line = ap (λ items. line_of_pieces view c.args.row at (λ n. first_piece (get_or (lent items) n []))) c.deref_mut.ensures.value
    ∙ line_of_rests view c.args.row at cells (lent c.loop-at.rests.items) c.loop-at.invariant.rests in
    record {
      written =
          written_both _ _ _ _ _ _ _ _ c.loop-at.invariant.written (c.in_ok-push_pieces.ensures.written ∙ ap (λ bs. string_bytes c.loop-at.text ++ bs) line) (line_fed _ _ c.in_ok-push.ensures.bytes)
          (ended_more (row_line view c.args.row cells) at);
      counted = ap length kept ∙ c.push_pieces.auto.rests ∙ ap length c.deref_mut.ensures.value ∙ c.loop-at.invariant.counted;
      rests = λ n k. ap (λ items. get_or (pieces (get_or (lent items) n [])) k []) kept
          ∙ rests_more at cells (lent c.loop-at.rests.items) (lent c.push_pieces.new.rests) c.loop-at.invariant.rests
          (λ m. c.in_ok-push_pieces.ensures.rests m ∙ ap (λ items. after_first_piece (get_or (lent items) m [])) c.deref_mut.ensures.value) n k;
    }

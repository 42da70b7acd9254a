-- The sides and pieces so far, and which rests have lost their first piece.
use Rattle.std.proofs.Common.{◌≡◌, ◌++◌, [], string_bytes, slice_index_or}
use Rattle.std.specs.List.{flat_map}
use Rattle.tabled_printing.specs.Pieces.{lent, first_piece}
use Rattle.tabled_object.specs.Entities.{below}
use Rattle.tabled_printing.specs.Picture.{Look, text_shown, side_shown}
use Rattle.tabled_printing.specs.Viewed.{frame_look}
use Rattle.tabled_config.proofs.PieceLemmas.{CutBelow}
use Rattle.tabled_config.proofs.print.push_pieces.Given as goal

abbrev pub invariant-loop-col : goal.invariant-loop-col
invariant-loop-col g l =
    let view : Look = frame_look g.D.Dimension.width_of g.D.Dimension.height_of l.frame in
    record {
      written : string_bytes l.text ≡ string_bytes l.initial.text ++ flat_map (λ c. text_shown (side_shown view l.row l.at c) ++ first_piece (slice_index_or (lent l.initial.rests) c [])) (below l.col);
      cut_below : CutBelow l.col (lent l.initial.rests) (lent l.rests);
    }

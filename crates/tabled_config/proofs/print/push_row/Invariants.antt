-- The lines so far, and what is left of the texts.
use Rattle.std.proofs.Common.{◌≡◌, ◌++◌, [], ◌∷◌, length, map, string_bytes}
use Rattle.std.specs.List.{flat_map}
use Rattle.tabled_object.specs.Entities.{below}
use Rattle.tabled_printing.specs.Pieces.{lent}
use Rattle.tabled_printing.specs.Picture.{Look, row_line}
use Rattle.tabled_printing.specs.Viewed.{frame_look}
use Rattle.tabled_config.proofs.PieceLemmas.{AreRests}
use Rattle.tabled_config.proofs.print.push_row.Given as goal

abbrev pub invariant-loop-at : goal.invariant-loop-at
invariant-loop-at g l =
    let view : Look = frame_look g.D.Dimension.width_of g.D.Dimension.height_of l.frame in
    record {
      written : string_bytes l.text ≡ string_bytes l.initial.text ++ flat_map (λ line. line ++ 10 ∷ []) (map (row_line view l.row (map string_bytes l.cells)) (below l.at));
      counted : length l.rests.items ≡ length l.cells;
      rests : AreRests l.at (map string_bytes l.cells) (lent l.rests.items);
    }

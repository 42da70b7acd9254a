-- The lines of the rows so far.
use Rattle.std.proofs.Common.{◌≡◌, ◌++◌, [], ◌∷◌, string_bytes, slice_index_or}
use Rattle.std.specs.List.{flat_map}
use Rattle.tabled_object.specs.Entities.{below}
use Rattle.tabled_printing.specs.Picture.{Look, line_if_drawn, row_lines}
use Rattle.tabled_width.specs.Texts.{texts}
use Rattle.tabled_printing.specs.Viewed.{frame_look}
use Rattle.tabled_config.proofs.print.push_table.Given as goal

abbrev pub invariant-loop-row : goal.invariant-loop-row
invariant-loop-row g l =
    let view : Look = frame_look g.D.Dimension.width_of g.D.Dimension.height_of l.frame in
    string_bytes l.text
    ≡ string_bytes l.initial.text ++ flat_map (λ line. line ++ 10 ∷ []) (flat_map (λ r. line_if_drawn view r ++ row_lines view r (slice_index_or (texts l.rows) r [])) (below l.row))

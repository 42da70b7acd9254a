-- The lines so far.
use Rattle.std.proofs.Common.{◌≡◌, ℕ, None, length, map, option_map}
use Rattle.std.specs.Option.{ForSome}
use Rattle.std.specs.Prelude.{slice_index_or}
use Rattle.tabled_object.specs.Entities.{below}
use Rattle.tabled_printing.specs.Beside.{plain_side}
use Rattle.tabled_printing.specs.SideMarks.{side_mark, IsAlikeSide}
use Rattle.tabled_printing.proofs.sides.one_by_one.Given as goal

abbrev pub invariant-loop-col : goal.invariant-loop-col
invariant-loop-col l = record {
  counted : length l.sides.items ≡ l.col;
  marks : map (option_map side_mark) l.sides.items ≡ map (plain_side l.cfg l.with_colors l.shape) (below l.col);
  alike : (c : ℕ) → ForSome (slice_index_or l.sides.items c None) (IsAlikeSide l.cfg l.with_colors l.shape.0 c);
}

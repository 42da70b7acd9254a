-- The lines stay, and the widest so far is known.
use Rattle.std.proofs.Common.{◌≡◌, map, take}
use Rattle.tabled_width.specs.Texts.{width_of_text}
use Rattle.tabled_cells.specs.Placed.{greatest}
use Rattle.tabled_cells.specs.Shown.{shown}
use Rattle.tabled_cells.proofs.shown_lines.ShownLines.measured.Given as goal

abbrev pub invariant-loop-n : goal.invariant-loop-n
invariant-loop-n l = record {
  same : shown l.lines ≡ shown l.self;
  most : l.widest ≡ greatest (map width_of_text (take l.n (shown l.self)));
}

use Rattle.std.proofs.Common.{◌∙◌}
use Rattle.tabled_grid.proofs.Copied.{same_seen}
use Rattle.tabled_grid.proofs.layers.copies.LayersKeep.keep.Goals as goal

pub returns : goal.returns
returns g c =
    same_seen c.self.inside (record { alloc = c.args.alloc; default_value = c.in_ok-below.below.0; class_record = c.in_ok-below.below.1; vertical_lines = c.in_ok-lines.lines.0; horizontal_lines = c.in_ok-lines.lines.1; cells = c.in_ok-cells.cells; horizontal_offsets = c.in_ok-offsets.offsets.0; vertical_offsets = c.in_ok-offsets.offsets.1; on_lines = c.in_ok-on_lines.on_lines; vertical_numbers = c.in_ok-numbers.numbers.0; horizontal_numbers = c.in_ok-numbers.numbers.1 })
    c.in_ok-lines.ensures c.in_ok-cells.ensures c.in_ok-offsets.ensures c.in_ok-below.ensures ∙ c.self.view_is

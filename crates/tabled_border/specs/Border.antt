-- The border of one cell.
use Rattle.std.specs.Prelude.{None}
use Rattle.tabled_border.specs.declared.border.Border.{Border}

-- no side and no corner is given
abbrev pub no_border : {T : Type 0} → Border T
no_border = record {
  top = None;
  bottom = None;
  left = None;
  right = None;
  left_top_corner = None;
  left_bottom_corner = None;
  right_top_corner = None;
  right_bottom_corner = None;
}

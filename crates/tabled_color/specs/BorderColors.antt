-- The colors of the border of one cell.
use Rattle.std.specs.Prelude.{Some, option_map}
use Rattle.tabled_border.specs.declared.border.Border.{Border}
use Rattle.tabled_border.specs.Texts.{Texts}
use Rattle.tabled_color.specs.Shade.{Shade, texts_of}

-- a color for each side and corner
abbrev pub full_border : {T : Type 0} → T → T → T → T → T → T → T → T → Border T
full_border top bottom left right top_left top_right bottom_left bottom_right = record {
  top = Some top;
  bottom = Some bottom;
  left = Some left;
  right = Some right;
  left_top_corner = Some top_left;
  left_bottom_corner = Some bottom_left;
  right_top_corner = Some top_right;
  right_bottom_corner = Some bottom_right;
}

-- the texts of the colors that are given
abbrev pub border_texts : Border Shade → Border Texts
border_texts border = record {
  top = option_map texts_of border.top;
  bottom = option_map texts_of border.bottom;
  left = option_map texts_of border.left;
  right = option_map texts_of border.right;
  left_top_corner = option_map texts_of border.left_top_corner;
  left_bottom_corner = option_map texts_of border.left_bottom_corner;
  right_top_corner = option_map texts_of border.right_top_corner;
  right_bottom_corner = option_map texts_of border.right_bottom_corner;
}

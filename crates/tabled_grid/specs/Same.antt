-- Whether two stores keep the same, where an equality of the values says which of those are the same.
use Rattle.std.specs.Prelude.{Bool, true, false, ◌&&◌}
use Rattle.std.specs.Option.{option_eq}
pub use Rattle.tabled_kept.specs.Same.{same_map}
use Rattle.tabled_places.specs.declared.borders.Borders.{Borders}
use Rattle.tabled_places.specs.declared.lines.HorizontalLine.{HorizontalLine}
use Rattle.tabled_places.specs.declared.lines.VerticalLine.{VerticalLine}
use Rattle.tabled_places.specs.declared.event.Written.{Written}
use Rattle.tabled_places.specs.declared.event.Written.TheVariants.{Sign as sign, Standing as standing}
use Rattle.tabled_places.specs.State.{State}

-- two records: in each field the same, or nothing in both
abbrev pub same_horizontal : {T : Type 0} → (T → T → Bool) → HorizontalLine T → HorizontalLine T → Bool
same_horizontal same a b =
    option_eq same a.main b.main && (option_eq same a.intersection b.intersection && (option_eq same a.left b.left && option_eq same a.right b.right))

abbrev pub same_vertical : {T : Type 0} → (T → T → Bool) → VerticalLine T → VerticalLine T → Bool
same_vertical same a b =
    option_eq same a.main b.main && (option_eq same a.intersection b.intersection && (option_eq same a.top b.top && option_eq same a.bottom b.bottom))

abbrev pub same_borders : {T : Type 0} → (T → T → Bool) → Borders T → Borders T → Bool
same_borders same a b =
    option_eq same a.top b.top && (option_eq same a.bottom b.bottom && (option_eq same a.left b.left && (option_eq same a.right b.right
    && (option_eq same a.top_left b.top_left && (option_eq same a.top_right b.top_right
    && (option_eq same a.bottom_left b.bottom_left && (option_eq same a.bottom_right b.bottom_right
    && (option_eq same a.top_intersection b.top_intersection && (option_eq same a.bottom_intersection b.bottom_intersection
    && (option_eq same a.left_intersection b.left_intersection && (option_eq same a.right_intersection b.right_intersection
    && (option_eq same a.horizontal b.horizontal && (option_eq same a.vertical b.vertical && option_eq same a.intersection b.intersection)))))))))))))

-- two stores, level by level
unfoldable pub same_below : {T : Type 0} → (T → T → Bool) → State T → State T → Bool
same_below same a b = option_eq same a.default_value b.default_value && same_borders same a.class_record b.class_record

unfoldable pub same_lines : {T : Type 0} → (T → T → Bool) → State T → State T → Bool
same_lines same a b =
    same_map (same_vertical same) a.vertical_lines b.vertical_lines && same_map (same_horizontal same) a.horizontal_lines b.horizontal_lines

unfoldable pub same_cells : {T : Type 0} → (T → T → Bool) → State T → State T → Bool
same_cells same a b =
    same_map same a.cells b.cells && same_map same a.horizontal_offsets b.horizontal_offsets && same_map same a.vertical_offsets b.vertical_offsets

unfoldable pub same_state : {T : Type 0} → (T → T → Bool) → State T → State T → Bool
same_state same a b = same_below same a b && same_lines same a b && same_cells same a b

-- two things that sites keep
abbrev pub same_written : {T : Type 0} → (T → T → Bool) → Written T → Written T → Bool
same_written same (sign x) (sign y) = same x y
same_written same (sign x) standing = false
same_written same standing (sign y) = false
same_written same standing standing = true

-- The arms of a character, and the character that has some arms.
use Rattle.std.specs.Prelude.{ℕ, Bool, true, false, not, ◌&&◌, ◌||◌, ◌==◌, Option, None, Some, is_some, List, [], ◌∷◌, if◌then◌else◌}
use Rattle.std.specs.Option.{option_eq}
use Rattle.tabled_boxes.specs.declared.arms.Weight.{Weight}
use Rattle.tabled_boxes.specs.declared.arms.Weight.TheVariants.{Light, Heavy, Double}
use Rattle.tabled_boxes.specs.declared.arms.Arms.{Arms}
use Rattle.tabled_boxes.specs.Table.{Drawn, table}

abbrev pub same_weight : Weight → Weight → Bool
same_weight Light Light = true
same_weight Heavy Heavy = true
same_weight Double Double = true
same_weight _ _ = false

abbrev pub same_arm : Option Weight → Option Weight → Bool
same_arm one other = option_eq same_weight one other

abbrev pub same_arms : Arms → Arms → Bool
same_arms one other = same_arm one.up other.up && (same_arm one.down other.down && (same_arm one.left other.left && same_arm one.right other.right))

-- the arms of a character in a list, and the first character of the list that has some arms
abbrev pub arms_in : List Drawn → ℕ → Option Arms
arms_in [] character = None
arms_in (row ∷ rows) character = if row.character == character then Some row.arms else arms_in rows character

abbrev pub first_with : List Drawn → Arms → Option ℕ
first_with [] arms = None
first_with (row ∷ rows) arms = if same_arms row.arms arms then Some row.character else first_with rows arms

unfoldable pub arms_of : ℕ → Option Arms
arms_of character = arms_in table character

unfoldable pub join : Arms → Option ℕ
join arms = first_with table arms

abbrev pub weight_number : Option Weight → ℕ
weight_number None = 0
weight_number (Some Light) = 1
weight_number (Some Heavy) = 2
weight_number (Some Double) = 3

-- ---- which arms a character has

abbrev pub is_heavy : Option Weight → Bool
is_heavy arm = same_arm arm (Some Heavy)

abbrev pub is_double : Option Weight → Bool
is_double arm = same_arm arm (Some Double)

abbrev pub any_arm : (Option Weight → Bool) → Arms → Bool
any_arm test arms = test arms.up || (test arms.down || (test arms.left || test arms.right))

-- an arm, and the one that goes on beyond the middle, are alike, where there are both
abbrev pub goes_on : Option Weight → Option Weight → Bool
goes_on one other = not (is_some one && is_some other) || same_arm one other

abbrev pub arm_number : Option Weight → ℕ
arm_number None = 0
arm_number (Some _) = 1

-- whether some character has these arms: there is one, and of light and heavy arms each may be any; beside a double arm stands
-- another, none is heavy, and a line goes through the middle as it came
unfoldable pub is_drawn : Arms → Bool
is_drawn arms =
    any_arm is_some arms
    && (not (any_arm is_double arms)
    || (not (any_arm is_heavy arms)
    && ((goes_on arms.up arms.down && goes_on arms.left arms.right)
    && ((is_some arms.up || is_some arms.down) && (is_some arms.left || is_some arms.right)
    || ((is_some arms.up && is_some arms.down) || (is_some arms.left && is_some arms.right))))))

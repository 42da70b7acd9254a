-- What becomes of a crossing, by the edges that meet there.
use Rattle.std.specs.Prelude.{ℕ, ◌+◌, ◌==◌, None, Bool, false, ◌||◌, ◌&&◌, not, nat_lt, Option, Some, option_and_then, if◌then◌else◌, is_some}
use Rattle.std.specs.Option.{option_eq, option_or}
use Rattle.tabled_boxes.specs.declared.arms.Weight.{Weight}
use Rattle.tabled_boxes.specs.declared.arms.Arms.{Arms}
use Rattle.tabled_boxes.specs.declared.crossing.Edges.{Edges}
use Rattle.tabled_boxes.specs.Arms.{arms_of, join, same_arms, arm_number}

-- an edge of a character that has no arms and is no space
abbrev pub is_other : Option ℕ → Bool
is_other None = false
is_other (Some character) = not (character == 0x20) && not (is_some (arms_of character))

abbrev pub any_other : Edges → Bool
any_other edges = is_other edges.above || (is_other edges.below || (is_other edges.left || is_other edges.right))

-- the arms with which edges reach their crossing: the edge above with the one that it has down, and so on
abbrev pub reaching : (Arms → Option Weight) → Option ℕ → Option Weight
reaching side edge = option_and_then side (option_and_then arms_of edge)

abbrev pub met : Edges → Arms
met edges = record {
  up = reaching (λ edge. edge.down) edges.above;
  down = reaching (λ edge. edge.up) edges.below;
  left = reaching (λ edge. edge.right) edges.left;
  right = reaching (λ edge. edge.left) edges.right;
}

abbrev pub arm_count : Arms → ℕ
arm_count arms = arm_number arms.up + (arm_number arms.down + (arm_number arms.left + arm_number arms.right))

-- whether arms of both directions meet
abbrev pub turns : Arms → Bool
turns arms = (is_some arms.up || is_some arms.down) && (is_some arms.left || is_some arms.right)

-- whether a crossing may change: it has a character with arms; or it has none, and lines of both directions end or pass there, so
-- that what is written draws no line that was not drawn
abbrev pub may_change : Option ℕ → Arms → Bool
may_change None arms = turns arms
may_change (Some character) arms = is_some (arms_of character)

-- whether a crossing at which these arms meet stays as it is: fewer than two meet, it may not change, or it has these arms already
abbrev pub is_kept : Option ℕ → Arms → Bool
is_kept crossing arms =
    nat_lt (arm_count arms) 2 || (not (may_change crossing arms) || option_eq same_arms (option_and_then arms_of crossing) (Some arms))

-- what becomes of it: else it is the character that has these arms, where there is one
unfoldable pub joined_by : Option ℕ → Arms → Option ℕ
joined_by crossing arms = if is_kept crossing arms then crossing else option_or (join arms) crossing

-- what becomes of a crossing where these edges meet
unfoldable pub joined : Option ℕ → Edges → Option ℕ
joined crossing edges = if any_other edges then crossing else joined_by crossing (met edges)

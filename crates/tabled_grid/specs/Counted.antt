-- The numbers that a store keeps beside what is kept, so that a line is found drawn in a few readings.
use Rattle.std.specs.Prelude.{◌≡◌, ℕ, ◌+◌, ◌-◌, ◌<◌, ◌^◌, min, Bool, false, ◌&&◌, ◌||◌, nat_lt, is_some, unwrap_or, Option, Some, None}
use Rattle.std.specs.Ordering.{nat_cmp}
use Rattle.std.specs.FinMap.{FinMap, get, len}
use Rattle.tabled_places.specs.declared.lines.HorizontalLine.{HorizontalLine}
use Rattle.tabled_places.specs.declared.lines.VerticalLine.{VerticalLine}
use Rattle.tabled_grid.specs.declared.line_numbers.LineNumbers.{LineNumbers}
use Rattle.tabled_places.specs.declared.place.LineOf.{LineOf}
use Rattle.tabled_places.specs.Drawn.{lies_on, number}
use Rattle.tabled_places.specs.Keys.{line_cmp, spot_cmp}
use Rattle.tabled_places.specs.declared.site.Direction.TheVariants.{Horizontal, Vertical}
use Rattle.tabled_places.specs.declared.place.Rank.{Rank}
use Rattle.tabled_places.specs.declared.place.Rank.TheVariants.{First as first, Inner as inner, Last as last}
use Rattle.tabled_places.specs.Site.{stands, horizontal_meeting}
use Rattle.tabled_places.specs.declared.site.Spot.{Spot}
use Rattle.tabled_places.specs.declared.site.Spot.TheVariants.{Edge, Crossing}
use Rattle.tabled_grid.specs.Count.{count, passes, one_if}

-- the number that is kept for a line: 0 where none is kept
abbrev pub number_at : FinMap line_cmp ℕ → LineOf → ℕ
number_at numbers line = unwrap_or (get numbers line) 0

-- the lines on which an edge or a crossing lies: one, or for a crossing two
abbrev pub first_line : Spot → LineOf
first_line (Edge Horizontal r c) = LineOf.Horizontal r
first_line (Edge Vertical r c) = LineOf.Vertical c
first_line (Crossing r c) = LineOf.Horizontal r

abbrev pub second_line : Spot → Option LineOf
second_line (Edge _ _ _) = None
second_line (Crossing r c) = Some (LineOf.Vertical c)

-- the number of each line is that of the edges and the crossings kept on it
pub record CellsCounted {T : Type 0} (numbers : FinMap line_cmp ℕ) (cells : FinMap spot_cmp T) : Type 0 where
  pub on_lines : (line : LineOf) → number_at numbers line ≡ count (λ spot _. lies_on line spot) cells
  pub few_cells : len cells < 2 ^ 64

-- whether a custom line draws the lines of a rank that it crosses
abbrev pub horizontal_draws : {T : Type 0} → Rank → HorizontalLine T → Bool
horizontal_draws rank line = is_some (horizontal_meeting rank line)

abbrev pub vertical_draws : {T : Type 0} → Rank → VerticalLine T → Bool
vertical_draws first line = is_some line.top
vertical_draws inner line = false
vertical_draws last line = is_some line.bottom

-- how many custom lines draw the lines of a rank that they cross
abbrev pub number_of : Rank → LineNumbers → ℕ
number_of first numbers = numbers.first
number_of inner numbers = numbers.inner
number_of last numbers = numbers.last

-- the numbers of one line, or of none
abbrev pub numbers_of : {L : Type 0} → (Rank → L → Bool) → Option L → LineNumbers
numbers_of draws line = record { first = one_if (passes (draws first) line); inner = one_if (passes (draws inner) line); last = one_if (passes (draws last) line) }

-- the numbers without those of what was taken, and with those of what was put
abbrev pub exchanged : LineNumbers → LineNumbers → LineNumbers → LineNumbers
exchanged numbers taken put = record {
  first = min (numbers.first - taken.first + put.first) (2 ^ 128 - 1);
  inner = min (numbers.inner - taken.inner + put.inner) (2 ^ 128 - 1);
  last = min (numbers.last - taken.last + put.last) (2 ^ 128 - 1);
}

-- the numbers are those of the custom lines of one direction
pub record LinesCounted {L : Type 0} (draws : Rank → L → Bool) (numbers : LineNumbers) (lines : FinMap nat_cmp L) : Type 0 where
  pub numbers_are : (rank : Rank) → number_of rank numbers ≡ count (λ _ line. draws rank line) lines
  pub few : len lines < 2 ^ 64

-- whether a custom line draws line n, of the lines 0 to count, by the numbers of those that cross it
abbrev pub across_drawn : LineNumbers → ℕ → ℕ → Bool
across_drawn numbers count n =
    (stands first count n && nat_lt 0 numbers.first) || (stands last count n && nat_lt 0 numbers.last) || (stands inner count n && nat_lt 0 numbers.inner)

-- whether a line is drawn by the custom line that stands there, by those that cross it, or by what is kept on it
abbrev pub line_drawn : {L : Type 0} → FinMap nat_cmp L → LineNumbers → FinMap line_cmp ℕ → ℕ → LineOf → Bool
line_drawn own across numbers count line =
    is_some (get own (number line)) || across_drawn across count (number line) || nat_lt 0 (number_at numbers line)

-- Which lines are drawn.
use Rattle.std.specs.Prelude.{ℕ, Bool, true, false, ◌&&◌, ◌==◌, nat_le, IsTrue, is_some, IsSome, Option, List, [], ◌∷◌, ◌≤◌}
use Rattle.std.specs.List.{list_any}
use Rattle.tabled_places.specs.declared.place.LineOf.{LineOf}
use Rattle.tabled_places.specs.Site.{Horizontal, Vertical, first, last, stands, edges, crossings, mark, meeting, Spot, Edge, Crossing, Site, the_default, of_class, of_line, at_spot}
use Rattle.tabled_places.specs.Event.{Written, Event, write, erase, replay}

abbrev pub number : LineOf → ℕ
number (LineOf.Horizontal n) = n
number (LineOf.Vertical n) = n

-- whether an edge or a crossing lies on a line
abbrev pub lies_on : LineOf → Spot → Bool
lies_on (LineOf.Horizontal n) (Edge Horizontal r c) = r == n
lies_on (LineOf.Horizontal n) (Crossing r c) = r == n
lies_on (LineOf.Vertical n) (Edge Vertical r c) = c == n
lies_on (LineOf.Vertical n) (Crossing r c) = c == n
lies_on _ _ = false

-- whether something that is kept at the site draws the line, of the lines 0 to `count` of its direction:
-- the default draws every line; a class those of its rank; a custom line the line at which it stands; its crossings with
-- horizontal lines draw these where they are outer ones, its crossings with vertical lines whatever they are; a cell's edge or
-- crossing the lines that it lies on. Offsets draw nothing.
abbrev pub draws : ℕ → LineOf → Site → Bool
draws count line the_default = true
draws count (LineOf.Horizontal n) (of_class (edges Horizontal rank)) = stands rank count n
draws count (LineOf.Horizontal n) (of_class (crossings row col)) = stands row count n
draws count (LineOf.Horizontal n) (of_line (LineOf.Horizontal m) mark) = m == n
draws count (LineOf.Horizontal n) (of_line (LineOf.Vertical m) (meeting first)) = stands first count n
draws count (LineOf.Horizontal n) (of_line (LineOf.Vertical m) (meeting last)) = stands last count n
draws count (LineOf.Vertical n) (of_class (edges Vertical rank)) = stands rank count n
draws count (LineOf.Vertical n) (of_class (crossings row col)) = stands col count n
draws count (LineOf.Vertical n) (of_line (LineOf.Vertical m) mark) = m == n
draws count (LineOf.Vertical n) (of_line (LineOf.Horizontal m) (meeting rank)) = stands rank count n
draws count line (at_spot spot) = lies_on line spot
draws count line _ = false

-- a line is drawn where it is not past the last one and something is kept at a site that draws it
pub record Drawn {T : Type 0} (state : Site → Option (Written T)) (count : ℕ) (line : LineOf) : Type 0 where
  pub no_further : number line ≤ count
  pub by : Site
  pub draws_it : IsTrue (draws count line by)
  pub is_kept : IsSome (state by)

-- the sites at which the events write
abbrev pub written : {T : Type 0} → List (Event T) → List Site
written [] = []
written (write q w ∷ es) = q ∷ written es
written (erase region ∷ es) = written es

-- `Drawn` as a test, for what a list of events leaves
unfoldable pub drawn : {T : Type 0} → List (Event T) → ℕ → LineOf → Bool
drawn es count line = nat_le (number line) count && list_any (λ q. draws count line q && is_some (replay es q)) (written es)

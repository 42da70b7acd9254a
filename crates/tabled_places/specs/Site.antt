-- Sites: where a table can keep something. A table of R rows and C columns has the horizontal lines 0 to R and the
-- vertical lines 0 to C; whatever is said of horizontal lines is said of vertical ones, mirrored.
use Rattle.std.specs.Prelude.{ℕ, Bool, true, false, ◌&&◌, ◌==◌, nat_lt, if◌then◌else◌, Option}
use Rattle.tabled_places.specs.declared.borders.Borders.{Borders}
use Rattle.tabled_places.specs.declared.lines.HorizontalLine.{HorizontalLine}
use Rattle.tabled_places.specs.declared.lines.VerticalLine.{VerticalLine}
use Rattle.tabled_object.specs.declared.offset.Offset.{Offset}
use Rattle.tabled_places.specs.declared.place.LineOf.{LineOf}
pub use Rattle.tabled_places.specs.declared.site.Direction.{Direction}
pub use Rattle.tabled_places.specs.declared.site.Direction.TheVariants.{Horizontal, Vertical}
pub use Rattle.tabled_places.specs.declared.site.Spot.{Spot}
pub use Rattle.tabled_places.specs.declared.site.Spot.TheVariants.{Edge, Crossing}
-- where a line stands among those of its direction: the first, the last, which closes the table, or one between
pub use Rattle.tabled_places.specs.declared.place.Rank.{Rank}
pub use Rattle.tabled_places.specs.declared.place.Rank.TheVariants.{First as first, Inner as inner, Last as last}
-- the fifteen classes: the edges of one direction on the lines of one rank, and the crossings of a horizontal line
-- of one rank with a vertical line of another
pub use Rattle.tabled_places.specs.declared.site.Class.{Class}
pub use Rattle.tabled_places.specs.declared.site.Class.TheVariants.{Edges as edges, Crossings as crossings}
-- the parts of a custom line: the mark that it stands, its edges, and its crossings with the lines of one rank
pub use Rattle.tabled_places.specs.declared.site.Part.{Part}
pub use Rattle.tabled_places.specs.declared.site.Part.TheVariants.{Mark as mark, Edges as main_edges, Crossings as meeting}
-- where something can be kept
pub use Rattle.tabled_places.specs.declared.site.Site.{Site}
pub use Rattle.tabled_places.specs.declared.site.Site.TheVariants.{Default as the_default, Class as of_class, Line as of_line, Cell as at_spot, Offset as at_offset}

-- whether line n, of the lines 0 to `count`, is of that rank
abbrev pub stands : Rank → ℕ → ℕ → Bool
stands first count n = n == 0
stands inner count n = nat_lt 0 n && nat_lt n count
stands last count n = n == count

-- the rank of line n, of the lines 0 to `count`
abbrev pub rank : ℕ → ℕ → Rank
rank count n = if n == 0 then first else (if n == count then last else inner)

-- how strong what is kept there is: 0 the default, 1 classes, 2 custom vertical lines, 3 custom horizontal lines,
-- 4 cells, 5 offsets from an edge's end, 6 offsets from its start
abbrev pub level : Site → ℕ
level the_default = 0
level (of_class _) = 1
level (of_line (LineOf.Vertical _) _) = 2
level (of_line (LineOf.Horizontal _) _) = 3
level (at_spot _) = 4
level (at_offset _ _ _ (Offset.End _)) = 5
level (at_offset _ _ _ (Offset.Start _)) = 6

-- what a class record has for a class
abbrev pub class_value : {T : Type 0} → Class → Borders T → Option T
class_value (edges Horizontal first) borders = borders.top
class_value (edges Horizontal inner) borders = borders.horizontal
class_value (edges Horizontal last) borders = borders.bottom
class_value (edges Vertical first) borders = borders.left
class_value (edges Vertical inner) borders = borders.vertical
class_value (edges Vertical last) borders = borders.right
class_value (crossings first first) borders = borders.top_left
class_value (crossings first inner) borders = borders.top_intersection
class_value (crossings first last) borders = borders.top_right
class_value (crossings inner first) borders = borders.left_intersection
class_value (crossings inner inner) borders = borders.intersection
class_value (crossings inner last) borders = borders.right_intersection
class_value (crossings last first) borders = borders.bottom_left
class_value (crossings last inner) borders = borders.bottom_intersection
class_value (crossings last last) borders = borders.bottom_right

-- what a custom horizontal line has for its crossings with the vertical lines of a rank
abbrev pub horizontal_meeting : {T : Type 0} → Rank → HorizontalLine T → Option T
horizontal_meeting first line = line.left
horizontal_meeting inner line = line.intersection
horizontal_meeting last line = line.right

-- what a custom vertical line has for its crossings with the horizontal lines of a rank
abbrev pub vertical_meeting : {T : Type 0} → Rank → VerticalLine T → Option T
vertical_meeting first line = line.top
vertical_meeting inner line = line.intersection
vertical_meeting last line = line.bottom

abbrev pub same_direction : Direction → Direction → Bool
same_direction Horizontal Horizontal = true
same_direction Vertical Vertical = true
same_direction _ _ = false

abbrev pub same_rank : Rank → Rank → Bool
same_rank first first = true
same_rank inner inner = true
same_rank last last = true
same_rank _ _ = false

abbrev pub same_class : Class → Class → Bool
same_class (edges d n) (edges e m) = same_direction d e && same_rank n m
same_class (crossings r c) (crossings s d) = same_rank r s && same_rank c d
same_class _ _ = false

abbrev pub same_line : LineOf → LineOf → Bool
same_line (LineOf.Horizontal n) (LineOf.Horizontal m) = n == m
same_line (LineOf.Vertical n) (LineOf.Vertical m) = n == m
same_line _ _ = false

abbrev pub same_part : Part → Part → Bool
same_part mark mark = true
same_part main_edges main_edges = true
same_part (meeting n) (meeting m) = same_rank n m
same_part _ _ = false

abbrev pub same_spot : Spot → Spot → Bool
same_spot (Edge d r c) (Edge e s k) = same_direction d e && (r == s) && (c == k)
same_spot (Crossing r c) (Crossing s k) = (r == s) && (c == k)
same_spot _ _ = false

abbrev pub same_offset : Offset → Offset → Bool
same_offset (Offset.Start n) (Offset.Start m) = n == m
same_offset (Offset.End n) (Offset.End m) = n == m
same_offset _ _ = false

-- whether two sites are one
abbrev pub same_site : Site → Site → Bool
same_site the_default the_default = true
same_site (of_class a) (of_class b) = same_class a b
same_site (of_line l p) (of_line m q) = same_line l m && same_part p q
same_site (at_spot a) (at_spot b) = same_spot a b
same_site (at_offset d r c o) (at_offset e s k p) = same_direction d e && (r == s) && (c == k) && same_offset o p
same_site _ _ = false

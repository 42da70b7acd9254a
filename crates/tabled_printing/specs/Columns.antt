-- Where the lines of a table's text stand on a terminal: how wide the text is, and in which column each vertical line.
use Rattle.std.specs.Prelude.{◌≡◌, ℕ, ◌+◌, Bool, true, if◌then◌else◌, List}
use Rattle.std.specs.List.{sum_by, list_all, AllZip}
use Rattle.tabled_object.specs.Entities.{below}
use Rattle.tabled_places.specs.declared.place.Place.{Place}
use Rattle.tabled_places.specs.declared.place.LineOf.{LineOf}
use Rattle.tabled_places.specs.declared.event.Event.{Event}
use Rattle.tabled_places.specs.declared.event.Event.TheVariants.{Write as write, Erase as erase}
use Rattle.tabled_places.specs.declared.event.Written.TheVariants.{Sign as sign, Standing as standing}
use Rattle.tabled_configuration.specs.Configuration.{ConfigEvent, characters_of}
use Rattle.tabled_width.specs.Narrow.{is_narrow, StandsAt}
use Rattle.tabled_printing.specs.Along.{along}
use Rattle.tabled_printing.specs.Picture.{Look, character}

-- whether an event writes no other character than a narrow one
abbrev pub is_narrow_write : Event ℕ → Bool
is_narrow_write (write site (sign character)) = is_narrow character
is_narrow_write (write site standing) = true
is_narrow_write (erase region) = true

-- events write narrow characters alone
abbrev pub WritesNarrow : List ConfigEvent → Type 0
WritesNarrow es = list_all is_narrow_write (characters_of es) ≡ true

-- each character that the table's places show is narrow
abbrev pub HasNarrowBorders : Look → Type 0
HasNarrowBorders view = (place : Place) → is_narrow (character (view.shown place)) ≡ true

-- how many columns vertical line c takes, how many stand before it, and how many a table takes
abbrev pub line_width : Look → ℕ → ℕ
line_width view c = if view.vertical c then 1 else 0

abbrev pub columns_before : Look → ℕ → ℕ
columns_before view c = sum_by (λ n. line_width view n + view.widths n) (below c)

abbrev pub table_width : Look → ℕ
table_width view = columns_before view view.shape.1 + line_width view view.shape.1

-- vertical line c stands straight: in each of the lines, after the columns before it, stands what the next place along it shows
abbrev pub StandsStraight : Look → ℕ → List (List ℕ) → Type 0
StandsStraight view c lines =
    AllZip (λ place line. StandsAt (columns_before view c) (character (view.shown place)) line)
    (along view.horizontal view.vertical view.shape view.widths view.heights (LineOf.Vertical c)) lines

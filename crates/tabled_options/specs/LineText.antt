-- A text on a line.
use Rattle.std.specs.Prelude.{ℕ, ◌-◌, ◌^◌, min, Bool, true, is_some, Option, Some, None, option_map, List, [], ◌++◌, map, length, take, drop, filter, zip}
use Rattle.tabled_border.specs.Texts.{Texts}
use Rattle.tabled_object.specs.declared.offset.Offset.{Offset}
use Rattle.tabled_places.specs.declared.place.LineOf.{LineOf}
use Rattle.tabled_places.specs.declared.place.Place.{Place}
use Rattle.tabled_places.specs.declared.site.Direction.TheVariants.{Horizontal, Vertical}
use Rattle.tabled_places.specs.declared.site.Spot.TheVariants.{Crossing}
use Rattle.tabled_places.specs.declared.site.Site.{Site}
use Rattle.tabled_places.specs.declared.site.Site.TheVariants.{Cell as at_spot, Offset as at_offset}
use Rattle.tabled_places.specs.declared.event.Event.{Event}
use Rattle.tabled_places.specs.declared.event.Event.TheVariants.{Write as write}
use Rattle.tabled_places.specs.declared.event.Written.TheVariants.{Sign as sign}
use Rattle.tabled_configuration.specs.Configuration.{ConfigEvent, by_characters, by_colors}
use Rattle.tabled_printing.specs.Along.{along}
use Rattle.tabled_printing.specs.Picture.{Look}
use Rattle.tabled_color.specs.Shade.{Shade, texts_of}
use Rattle.tabled_formatting.specs.declared.alignment.Alignment.{Alignment}
use Rattle.tabled_options.specs.TextStart.{limited, text_start}

-- a text for a line: its characters, what names the line, how it is aligned and by how much it is moved from there, its
-- color, and how many of its characters count
pub record Lettering (L : Type 0) : Type 0 where
  pub text : List ℕ
  pub line : L
  pub alignment : Option Alignment
  pub offset : Offset
  pub color : Option Shade
  pub limit : Option ℕ

-- the first ones of these places, as many as a number of 64 bits can count
abbrev pub countable : List Place → List Place
countable places = take (min (length places) (2 ^ 64 - 1)) places

-- the places along a line of a table that looks like this, in order
unfoldable pub places_along : Look → LineOf → List Place
places_along view line = countable (along view.horizontal view.vertical view.shape view.widths view.heights line)

-- the places that a text takes from its start on, each with its character: one for each character, as long as there are
-- places; without a start there are none
abbrev pub laid : Option ℕ → List ℕ → List Place → List (Place × ℕ)
laid None letters places = []
laid (Some start) letters places = zip (drop start places) letters

-- the site at which something is written at a place: for an edge its offset from the start, for a crossing the level of cells
abbrev pub written_site : Place → Site
written_site (Place.Horizontal r c k) = at_offset Horizontal r c (Offset.Start k)
written_site (Place.Vertical r c k) = at_offset Vertical r c (Offset.Start k)
written_site (Place.Cross r c) = at_spot (Crossing r c)

-- whether a place takes a character: a crossing that shows none stays empty
abbrev pub takes_character : (Place → Option ℕ) → Place → Bool
takes_character shown (Place.Horizontal r c k) = true
takes_character shown (Place.Vertical r c k) = true
takes_character shown (Place.Cross r c) = is_some (shown (Place.Cross r c))

abbrev pub character_written : Place × ℕ → Event ℕ
character_written (place, letter) = write (written_site place) (sign letter)

abbrev pub color_written : Texts → Place × ℕ → Event Texts
color_written color (place, letter) = write (written_site place) (sign color)

-- the characters that are written, where `shown` is what places show before, and the color, which is written at each place
-- that the text takes
unfoldable pub characters_written : (Place → Option ℕ) → List (Place × ℕ) → List (Event ℕ)
characters_written shown taken = map character_written (filter (λ at. takes_character shown at.0) taken)

unfoldable pub colors_written : Option Texts → List (Place × ℕ) → List (Event Texts)
colors_written None taken = []
colors_written (Some color) taken = map (color_written color) taken

-- the places that a text takes on a line of a table that looks like this
unfoldable pub places_taken : {L : Type 0} → Lettering L → Look → Option LineOf → List (Place × ℕ)
places_taken text view None = []
places_taken text view (Some line) =
    laid (text_start line (length (places_along view line)) (limited text.limit text.text) text.alignment text.offset)
    (limited text.limit text.text) (places_along view line)

-- the events of a text on a line, if one is named, in a table that looks like this
unfoldable pub text_events : {L : Type 0} → Lettering L → Look → Option LineOf → List ConfigEvent
text_events text view line =
    by_characters (characters_written view.shown (places_taken text view line))
    ++ by_colors (colors_written (option_map texts_of text.color) (places_taken text view line))

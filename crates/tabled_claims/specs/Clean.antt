-- Options that write nothing that steers a terminal.
use Rattle.std.specs.Prelude.{◌≡◌, ℕ, Bool, true, false, not, Option, List}
use Rattle.std.specs.List.{filter_map, list_all}
use Rattle.tabled_clean.specs.Steering.{IsCleanText, steers}
use Rattle.tabled_border.specs.declared.border.Border.{Border}
use Rattle.tabled_width.specs.declared.limit.Overflow.{Overflow}
use Rattle.tabled_width.specs.declared.limit.Overflow.TheVariants.{Wrap, WrapWords, Truncate}
use Rattle.tabled_object.specs.declared.position.Position.{Position}
use Rattle.tabled_settings.specs.CellSettings.{justification_event}
use Rattle.tabled_settings.specs.Live.{value_at}
use Rattle.tabled_settings.specs.Setting.{EntityEvent}
use Rattle.tabled_layout.specs.TableSettings.{cell_event}
use Rattle.tabled_places.specs.declared.borders.Borders.{Borders}
use Rattle.tabled_places.specs.declared.event.Event.{Event}
use Rattle.tabled_places.specs.declared.lines.HorizontalLine.{HorizontalLine}
use Rattle.tabled_places.specs.declared.lines.VerticalLine.{VerticalLine}
use Rattle.tabled_configuration.specs.Configuration.{Configuration, ConfigEvent, Shows, characters_of, settings_of}
use Rattle.tabled_printing.specs.Columns.{WritesNarrow}
use Rattle.tabled_measure.specs.Cells.{cells_set, leaves_sizes}
use Rattle.tabled_claims.specs.Characters.{is_passing_write, passes_if_given, passes_border, passes_record, passes_horizontal, passes_vertical}

-- whether a character does not steer
abbrev pub is_quiet : ℕ → Bool
is_quiet character = not (steers character)

-- whether an event writes no character that steers
abbrev pub is_clean_write : Event ℕ → Bool
is_clean_write = is_passing_write is_quiet

-- whether a character that may be given does not steer where it is; nor what a border gives, what a class record has, or a custom line
abbrev pub is_clean_if_given : Option ℕ → Bool
is_clean_if_given = passes_if_given is_quiet

abbrev pub is_clean_border : Border ℕ → Bool
is_clean_border = passes_border is_quiet

abbrev pub is_clean_record : Borders ℕ → Bool
is_clean_record = passes_record is_quiet

abbrev pub is_clean_horizontal : HorizontalLine ℕ → Bool
is_clean_horizontal = passes_horizontal is_quiet

abbrev pub is_clean_vertical : VerticalLine ℕ → Bool
is_clean_vertical = passes_vertical is_quiet

-- the events of what fills the lines of cells
abbrev pub fills_of : List ConfigEvent → List (EntityEvent ℕ)
fills_of events = filter_map justification_event (filter_map cell_event (settings_of events))

-- events write no such character: neither around cells, nor to fill the lines of a cell
pub record WritesClean (events : List ConfigEvent) : Type 0 where
  pub borders : list_all is_clean_write (characters_of events) ≡ true
  pub filling : (position : Position) → steers (value_at (cells_set events).justification position) ≡ false

-- nothing steers in what is written after a line that is too wide, if anything is
abbrev pub EndsClean : Overflow → Type 0
EndsClean Wrap = Unit {0}
EndsClean WrapWords = Unit {0}
EndsClean (Truncate suffix) = IsCleanText suffix.now

-- a configuration shows events that write narrow characters alone, none of which steers, and that let no cell span or have padding
abbrev pub ShowsPlainly : Configuration → Type 0
ShowsPlainly cfg = (events : List ConfigEvent) × Shows events cfg × WritesNarrow events × WritesClean events × (leaves_sizes events ≡ true)

-- What a request asks for, in the surroundings of the program.
use Rattle.std.specs.Prelude.{ℕ, ◌-◌, Bool, true, false, not, ◌&&◌, ◌||◌, if◌then◌else◌, List, codes, drop, length, is_some, Option, Some, None, unwrap_or}
use Rattle.std.specs.Option.{option_or}
use Rattle.std.specs.Str.{str_eq_ignore_ascii_case}
use Rattle.tabled_input.specs.declared.rows.Cells.{Cells}
use Rattle.tabled_input.specs.declared.rows.Cells.TheVariants.{Separated, Quoted, Spaced}
use Rattle.tabled_request.specs.declared.request.Form.{Form}
use Rattle.tabled_request.specs.declared.request.Form.TheVariants as form
use Rattle.tabled_request.specs.declared.request.Request.{Request}
use Rattle.tabled_request.specs.declared.request.Shows.{Shows}
use Rattle.tabled_request.specs.declared.request.Shows.TheVariants as shows
use Rattle.tabled_request.specs.declared.request.When.{When}
use Rattle.tabled_request.specs.declared.request.When.TheVariants as when
use Rattle.tabled_request.specs.declared.surroundings.Surroundings.{Surroundings}
use Rattle.tabled_request.specs.Words.{word_at}
use Rattle.tabled_style.specs.declared.ready_style.ReadyStyle.{ReadyStyle}
use Rattle.tabled_style.specs.declared.ready_style.ReadyStyle.TheVariants as ready
use Rattle.tabled_style.specs.Named.{style_named}

-- whether the program is asked about itself, and shows no table of an input
abbrev pub is_about_itself : Shows → Bool
is_about_itself shows.Table = false
is_about_itself shows.Help = true
is_about_itself shows.Version = true
is_about_itself shows.Styles = true

-- whether a file is CSV by its name, which ends in .csv, in large or small letters
unfoldable pub names_csv : List ℕ → Bool
names_csv name = str_eq_ignore_ascii_case (drop (length name - 4) name) (codes ".csv")

-- how the cells of the input stand, where that is said: an option says it, or else the name of the file
abbrev pub form_named : Option (List ℕ) → Option Form
form_named None = None
form_named (Some name) = if names_csv name then Some form.Csv else None

abbrev pub form_asked : Request → List (List ℕ) → Option Form
form_asked request words = option_or request.form (form_named (word_at words request.file))

-- between tabs, in columns between blanks, or between commas where they may stand in quotes; another separator may be given
abbrev pub cells_by : Option Form → Option ℕ → Cells
cells_by None separator = Separated (unwrap_or separator 9)
cells_by (Some form.Csv) separator = Quoted (unwrap_or separator 44)
cells_by (Some form.Spaces) separator = Spaced

abbrev pub cells_asked : Request → List (List ℕ) → Cells
cells_asked request words = cells_by (form_asked request words) request.separator

-- the style that a word names; without a word it is one that the terminal can show
abbrev pub style_by : Option (List ℕ) → Surroundings → Option ReadyStyle
style_by None around = Some (if around.takes_utf8 then ready.Rounded else ready.Ascii)
style_by (Some name) around = style_named name

abbrev pub style_asked : Request → List (List ℕ) → Surroundings → Option ReadyStyle
style_asked request words around = style_by (word_at words request.style) around

-- how many columns of the terminal the table may take, if that is limited
abbrev pub width_asked : Request → Surroundings → Option ℕ
width_asked request around = option_or request.width (if request.fits_terminal then around.columns else None)

-- whether there are colors: where it is left open, on a terminal alone, unless the surroundings forbid them
abbrev pub is_colored_by : When → Surroundings → Bool
is_colored_by when.Always around = true
is_colored_by when.Never around = false
is_colored_by when.Auto around = around.is_terminal && not around.forbids_color

abbrev pub is_colored : Request → Surroundings → Bool
is_colored request around = is_colored_by request.color around

-- whether a color is asked for, and there are none
abbrev pub lacks_color : Request → Surroundings → Bool
lacks_color request around = (request.has_stripes || is_some request.frame_color) && not (is_colored request around)

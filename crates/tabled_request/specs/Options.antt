-- The options, as a table.
use Rattle.std.specs.Prelude.{ℕ, Bool, true, false, ◌==◌, ◌||◌, if◌then◌else◌, List, [], ◌∷◌, codes, drop, length, Option, Some, None, option_map, find}
use Rattle.std.specs.List.{before_first, common_prefix_len}
use Rattle.std.specs.Str.{bytes_eq}
use Rattle.tabled_request.specs.declared.options.OptionName.{OptionName}
use Rattle.tabled_request.specs.declared.options.OptionName.TheVariants as option
use Rattle.tabled_request.specs.declared.request.Form.TheVariants as form
use Rattle.tabled_request.specs.declared.request.Request.{Request}
use Rattle.tabled_request.specs.declared.request.Shows.TheVariants as shows
use Rattle.tabled_request.specs.Cells.{are_cells}
use Rattle.tabled_request.specs.Columns.{are_columns}
use Rattle.tabled_request.specs.Numerals.{from_one, number_of}
use Rattle.tabled_request.specs.Values.{color_named, is_line, separator_named, when_named}

-- an option: its name, its letter, whether the word after it is its value, and the request with it, by the number and the text of that word, or
-- of its own where it takes none; nothing where the word is no value of it
pub record Entry : Type 0 where
  pub name : List ℕ
  pub letter : Option (List ℕ)
  pub takes_value : Bool
  pub sets : ℕ → List ℕ → Request → Option Request

-- an option that takes a value, and one that takes none
abbrev pub valued : List ℕ → Option (List ℕ) → (ℕ → List ℕ → Request → Option Request) → Entry
valued name letter sets = record { name = name; letter = letter; takes_value = true; sets = sets }

abbrev pub alone : List ℕ → Option (List ℕ) → (Request → Request) → Entry
alone name letter sets = record { name = name; letter = letter; takes_value = false; sets = λ n word request. Some (sets request) }

-- the table
unfoldable pub entry_of : OptionName → Entry
entry_of option.Style = valued (codes "--style") (Some (codes "-s")) (λ n word request. Some (record request { style = Some n }))
entry_of option.Separator = valued (codes "--separator") (Some (codes "-d")) (λ n word request. option_map (λ c. record request { separator = Some c }) (separator_named word))
entry_of option.Csv = alone (codes "--csv") (Some (codes "-c")) (λ request. record request { form = Some form.Csv })
entry_of option.Spaces = alone (codes "--spaces") None (λ request. record request { form = Some form.Spaces })
entry_of option.Header = alone (codes "--header") None (λ request. record request { has_header = true })
entry_of option.NoHeader = alone (codes "--no-header") None (λ request. record request { has_header = false })
entry_of option.Title = valued (codes "--title") (Some (codes "-t")) (λ n word request. if is_line word then Some (record request { title = Some n }) else None)
entry_of option.Footer = valued (codes "--footer") None (λ n word request. if is_line word then Some (record request { footer = Some n }) else None)
entry_of option.Left = valued (codes "--left") (Some (codes "-l")) (λ n word request. if are_columns word then Some (record request { left = Some n }) else None)
entry_of option.Center = valued (codes "--center") None (λ n word request. if are_columns word then Some (record request { center = Some n }) else None)
entry_of option.Right = valued (codes "--right") (Some (codes "-r")) (λ n word request. if are_columns word then Some (record request { right = Some n }) else None)
entry_of option.NoNumbers = alone (codes "--no-numbers") None (λ request. record request { finds_numbers = false })
entry_of option.Width = valued (codes "--width") (Some (codes "-w")) (λ n word request. option_map (λ width. record request { width = Some width }) (from_one (number_of word)))
entry_of option.Wrap = alone (codes "--wrap") None (λ request. record request { cuts_off = false })
entry_of option.Truncate = alone (codes "--truncate") None (λ request. record request { cuts_off = true })
entry_of option.Terminal = alone (codes "--terminal") None (λ request. record request { fits_terminal = true })
entry_of option.Color = valued (codes "--color") (Some (codes "-C")) (λ n word request. option_map (λ choice. record request { color = choice }) (when_named word))
entry_of option.Stripes = alone (codes "--stripes") None (λ request. record request { has_stripes = true })
entry_of option.FrameColor = valued (codes "--frame-color") None (λ n word request. option_map (λ color. record request { frame_color = Some color }) (color_named word))
entry_of option.Outline = valued (codes "--outline") (Some (codes "-o")) (λ n word request. if are_cells word then Some (record request { outline = Some n }) else None)
entry_of option.Mark = valued (codes "--mark") (Some (codes "-m")) (λ n word request. Some (record request { mark = Some n }))
entry_of option.Fill = alone (codes "--fill") None (λ request. record request { fills = true })
entry_of option.Columns = valued (codes "--columns") None (λ n word request. if are_columns word then Some (record request { columns = Some n }) else None)
entry_of option.Head = valued (codes "--head") (Some (codes "-n")) (λ n word request. option_map (λ count. record request { head = Some count }) (number_of word))
entry_of option.RowNumbers = alone (codes "--row-numbers") None (λ request. record request { has_row_numbers = true })
entry_of option.Raw = alone (codes "--raw") None (λ request. record request { is_raw = true })
entry_of option.Help = alone (codes "--help") (Some (codes "-h")) (λ request. record request { shows = shows.Help })
entry_of option.Version = alone (codes "--version") (Some (codes "-V")) (λ request. record request { shows = shows.Version })
entry_of option.Styles = alone (codes "--styles") None (λ request. record request { shows = shows.Styles })

-- all options, in the order in which one that is near is looked for
abbrev pub all_options : List OptionName
all_options =
    option.Style ∷ option.Separator ∷ option.Csv ∷ option.Spaces ∷ option.NoHeader ∷ option.Header ∷ option.Title ∷ option.Footer ∷ option.Left ∷ option.Center ∷ option.Right ∷ option.NoNumbers ∷ option.Width
    ∷ option.Wrap ∷ option.Truncate ∷ option.Terminal ∷ option.Color ∷ option.Stripes ∷ option.FrameColor ∷ option.Outline ∷ option.Mark ∷ option.Fill ∷ option.Columns ∷ option.Head ∷ option.RowNumbers
    ∷ option.Raw ∷ option.Help ∷ option.Version ∷ option.Styles ∷ []

abbrev pub name_of : OptionName → List ℕ
name_of option = (entry_of option).name

abbrev pub takes_value : OptionName → Bool
takes_value option = (entry_of option).takes_value

-- whether a word names an option, by its name or its letter
abbrev pub is_named : OptionName → List ℕ → Bool
is_named option word = bytes_eq (name_of option) word || elim ((entry_of option).letter) [ None ↦ false | Some letter ↦ bytes_eq letter word ]

-- the option that a word names, if it names one
unfoldable pub option_named : List ℕ → Option OptionName
option_named word = find (λ option. is_named option word) all_options

-- how many bytes two texts begin with alike
abbrev pub alike : List ℕ → List ℕ → ℕ
alike a b = common_prefix_len (λ x y. x == y) a b

-- whether a text is another one, or what is left of it after its first byte, or its first two
abbrev pub is_rest : List ℕ → List ℕ → Bool
is_rest rest text = bytes_eq rest text || bytes_eq rest (drop 1 text) || bytes_eq rest (drop 2 text)

-- two texts are near where one begins with the other, or where, after what they begin with alike, no more than two bytes of each are between
-- them: these are other ones, missing, too many, or the wrong way round
abbrev pub are_near : List ℕ → List ℕ → Bool
are_near a b =
    let left = drop (alike a b) a in
    let other = drop (alike a b) b in
    (length left == 0) || (length other == 0) || is_rest left other || is_rest (drop 1 left) other || is_rest (drop 2 left) other

-- whether a byte is an equals sign
abbrev pub is_equals : ℕ → Bool
is_equals b = b == 61

-- the first option whose name is near a word, or what stands before an equals sign of it
unfoldable pub option_near : List ℕ → Option OptionName
option_near word = find (λ option. are_near (name_of option) (before_first is_equals word)) all_options

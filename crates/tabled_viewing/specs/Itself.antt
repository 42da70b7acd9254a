-- What the program says of itself.
use Rattle.std.specs.Prelude.{ℕ, Bool, ◌==◌, if◌then◌else◌, List, [], ◌∷◌, ◌++◌, codes, drop, flat_map, length, Option, Some, None}
use Rattle.std.specs.List.{starts_with}
use Rattle.std.specs.Str.Lines.{lines}
use Rattle.tabled_width.specs.Texts.{Table}
use Rattle.tabled_style.specs.declared.ready_style.ReadyStyle.{ReadyStyle}
use Rattle.tabled_style.specs.Named.{all_ready, name_of, ready_applied}
use Rattle.tabled_text.specs.TextTable.{text_of}
use Rattle.tabled_request.specs.Words.{word_at}
use Rattle.tabled_request.specs.declared.request.Request.{Request}
use Rattle.tabled_request.specs.declared.request.Shows.{Shows}
use Rattle.tabled_request.specs.declared.request.Shows.TheVariants as shows
use Rattle.tabled_viewing.specs.declared.texts.TheConstants.{HELP, VERSION}

-- a small table
abbrev pub sample : Table
sample = (codes "name" ∷ codes "since" ∷ []) ∷ (codes "C" ∷ codes "1972" ∷ []) ∷ (codes "Lisp" ∷ codes "1960" ∷ []) ∷ []

-- a style by its name, and the small table in it
abbrev pub style_told : ReadyStyle → List ℕ
style_told style = name_of style ++ 10 ∷ (text_of (ready_applied style) sample ++ 10 ∷ 10 ∷ [])

-- all styles
unfoldable pub styles_told : List ℕ
styles_told = flat_map style_told all_ready

-- a line of the help is about an option that is named without its dashes: its name stands after six characters
abbrev pub is_about : List ℕ → List ℕ → Bool
is_about name line = starts_with (λ a b. a == b) (drop 6 line) (codes "--" ++ (name ++ codes " "))

-- the lines that are about an option, and all of the help where there is none
unfoldable pub lines_about : List ℕ → List ℕ
lines_about name = flat_map (λ line. if is_about name line then line ++ 10 ∷ [] else []) (lines HELP.now)

abbrev pub help_about : Option (List ℕ) → List ℕ
help_about None = HELP.now
help_about (Some name) = if length (lines_about name) == 0 then HELP.now else lines_about name

-- what is said where the program is asked about itself; a word for a file is then the name of an option
abbrev pub told_by : Shows → Option (List ℕ) → List ℕ
told_by shows.Table name = []
told_by shows.Help name = help_about name
told_by shows.Version name = VERSION.now
told_by shows.Styles name = styles_told

abbrev pub told_of_itself : Request → List (List ℕ) → List ℕ
told_of_itself request words = told_by request.shows (word_at words request.file)

-- The style that the words after the program's name ask for.
use Rattle.std.specs.Prelude.{ℕ, List, [], ◌∷◌, Option, None}
use Rattle.tabled_configuration.specs.Configuration.{ConfigEvent}
use Rattle.tabled_style.specs.declared.ready_style.ReadyStyle.{ReadyStyle}
use Rattle.tabled_style.specs.Named.{style_named, ready_applied}

-- it takes one word
abbrev pub style_of : List (List ℕ) → Option ReadyStyle
style_of [] = None
style_of (name ∷ []) = style_named name
style_of (name ∷ next ∷ more) = None

-- a style applied to a table
abbrev pub styled : ReadyStyle → List ConfigEvent
styled style = ready_applied style

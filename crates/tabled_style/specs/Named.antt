-- The ready styles by name.
use Rattle.std.specs.Prelude.{ℕ, List, [], ◌∷◌, codes, Option, find}
use Rattle.std.specs.Str.{bytes_eq}
use Rattle.tabled_configuration.specs.Configuration.{ConfigEvent, borders_replaced}
use Rattle.tabled_style.specs.Shown.{StyleShown}
use Rattle.tabled_style.specs.Ready.{empty, blank, ascii, psql, markdown, modern, sharp, rounded, modern_rounded, extended, dots, re_structured_text, ascii_rounded}
use Rattle.tabled_style.specs.declared.ready_style.ReadyStyle.TheVariants as ready
use Rattle.tabled_style.specs.declared.ready_style.ReadyStyle.{ReadyStyle}

-- what a ready style shows
unfoldable pub shown : ReadyStyle → StyleShown
shown ready.Empty = empty
shown ready.Blank = blank
shown ready.Ascii = ascii
shown ready.Psql = psql
shown ready.Markdown = markdown
shown ready.Modern = modern
shown ready.Sharp = sharp
shown ready.Rounded = rounded
shown ready.ModernRounded = modern_rounded
shown ready.Extended = extended
shown ready.Dots = dots
shown ready.ReStructuredText = re_structured_text
shown ready.AsciiRounded = ascii_rounded

-- the name of a ready style
unfoldable pub name_of : ReadyStyle → List ℕ
name_of ready.Empty = codes "empty"
name_of ready.Blank = codes "blank"
name_of ready.Ascii = codes "ascii"
name_of ready.Psql = codes "psql"
name_of ready.Markdown = codes "markdown"
name_of ready.Modern = codes "modern"
name_of ready.Sharp = codes "sharp"
name_of ready.Rounded = codes "rounded"
name_of ready.ModernRounded = codes "modern_rounded"
name_of ready.Extended = codes "extended"
name_of ready.Dots = codes "dots"
name_of ready.ReStructuredText = codes "re_structured_text"
name_of ready.AsciiRounded = codes "ascii_rounded"

-- all ready styles
abbrev pub all_ready : List ReadyStyle
all_ready =
    ready.Empty ∷ ready.Blank ∷ ready.Ascii ∷ ready.Psql ∷ ready.Markdown ∷ ready.Modern ∷ ready.Sharp ∷ ready.Rounded ∷ ready.ModernRounded
    ∷ ready.Extended ∷ ready.Dots ∷ ready.ReStructuredText ∷ ready.AsciiRounded ∷ []

-- the ready style of this name, if there is one
unfoldable pub style_named : List ℕ → Option ReadyStyle
style_named name = find (λ style. bytes_eq (name_of style) name) all_ready

-- a ready style applied to a table
abbrev pub ready_applied : ReadyStyle → List ConfigEvent
ready_applied style = borders_replaced (shown style).borders (shown style).horizontals (shown style).verticals

-- The text that the program writes for a style and an input.
use Rattle.std.specs.Prelude.{ℕ, List, [], ◌∷◌, ◌++◌}
use Rattle.tabled_width.specs.Texts.{Table}
use Rattle.tabled_text.specs.TextTable.{text_of}
use Rattle.tabled_pages.specs.declared.bytes.TheConstants.{LINE_FEED}
use Rattle.tabled_style.specs.declared.ready_style.ReadyStyle.{ReadyStyle}
use Rattle.tabled_pages.specs.Style.{styled}
use Rattle.tabled_pages.specs.Input.{rows_of}

-- the text of the rows as a table in a style, and a line feed after it; nothing where there is no row
abbrev pub framed_page : ReadyStyle → Table → List ℕ
framed_page style [] = []
framed_page style (row ∷ rows) = text_of (styled style) (row ∷ rows) ++ LINE_FEED ∷ []

-- what is written for an input
unfoldable pub page : ReadyStyle → List ℕ → List ℕ
page style input = framed_page style (rows_of input)

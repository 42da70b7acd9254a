-- What is written for an input: its table as a request asks for it.
use Rattle.std.specs.Prelude.{◌≡◌, ℕ, ◌-◌, ◌≤◌, Bool, true, false, ◌&&◌, ◌||◌, nat_lt, nat_le, if◌then◌else◌, List, [], ◌∷◌, ◌++◌, codes, length, is_none, is_some, Option, Some, None}
use Rattle.std.specs.List.{list_all}
use Rattle.tabled_width.specs.declared.limit.Overflow.{Overflow}
use Rattle.tabled_width.specs.declared.limit.Overflow.TheVariants.{Wrap, WrapWords, Truncate}
use Rattle.tabled_configuration.specs.Configuration.{ConfigEvent, borders_replaced}
use Rattle.tabled_painting.specs.PaintedTable.{colored_text}
use Rattle.tabled_painting.specs.Widths.{text_width}
use Rattle.tabled_width.specs.Texts.{Table, pieces, width_of_text}
use Rattle.tabled_style.specs.declared.ready_style.ReadyStyle.{ReadyStyle}
use Rattle.tabled_style.specs.Named.{shown, ready_applied}
use Rattle.tabled_measure.specs.Cells.{margin_set}
use Rattle.tabled_measure.specs.Changed.{CellsArePrintable}
use Rattle.tabled_text.specs.Fitted.{IsFitted, frame_width, least_width}
use Rattle.tabled_text.specs.TextTable.{look_of, painted, text_of}
use Rattle.tabled_input.specs.Input.{rows_in}
use Rattle.tabled_request.specs.Sides.{sides_of}
use Rattle.tabled_request.specs.Words.{word_at}
use Rattle.tabled_request.specs.declared.request.Request.{Request}
use Rattle.tabled_request.specs.declared.surroundings.Surroundings.{Surroundings}
use Rattle.tabled_viewing.specs.Asked.{cells_asked, style_asked, width_asked, is_colored}
use Rattle.tabled_viewing.specs.Captions.{beside, caption, on_line}
use Rattle.tabled_viewing.specs.Colors.{aligned, colored_if}
use Rattle.tabled_viewing.specs.Notes.{no_notes, notes_of}
use Rattle.tabled_viewing.specs.Outlines.{outlines}
use Rattle.tabled_viewing.specs.Rows.{rows_shown, texts_shown}
use Rattle.tabled_viewing.specs.declared.notes.Notes.{Notes}

-- the line below the header is drawn: there is a header, and either a row below it, or no other line that closes the table
abbrev pub has_header_line : Request → ReadyStyle → ℕ → Bool
has_header_line request style rows = request.has_header && (nat_lt 1 rows || is_none (shown style).borders.bottom)

-- the style drawn: as it is, or without the lines that it has at single rows
abbrev pub drawn : Request → ReadyStyle → ℕ → List ConfigEvent
drawn request style rows =
    if has_header_line request style rows then ready_applied style else borders_replaced (shown style).borders [] []

-- the borders of the table of these texts, which has these rows: its style as it is drawn, and then the outlines around some of its cells
abbrev pub framed : Request → ReadyStyle → List (List ℕ) → Table → Table → List ConfigEvent
framed request style words rows texts = drawn request style (length texts) ++ outlines request style words rows texts

-- how texts are kept within a width: they are cut off before two dots, or they go on in further lines, cut at their spaces
abbrev pub IsKeptBy : Bool → Overflow → Type 0
IsKeptBy cuts_off Wrap = ⊥
IsKeptBy cuts_off WrapWords = cuts_off ≡ false
IsKeptBy cuts_off (Truncate suffix) = (cuts_off ≡ true) × (suffix.now ≡ codes "..")

-- the texts of a table, kept so narrow that the table takes no more than so many columns of the terminal, as far as that can be
abbrev pub IsKeptWithin : Bool → ℕ → List ConfigEvent → Table → Table → Type 0
IsKeptWithin cuts_off width events before after = (how : Overflow) × IsKeptBy cuts_off how × IsFitted how 1 (width - frame_width events before) before after

abbrev pub IsWithin : Bool → Option ℕ → List ConfigEvent → Table → Table → Type 0
IsWithin cuts_off None events before after = after ≡ before
IsWithin cuts_off (Some width) events before after = IsKeptWithin cuts_off width events before after

-- the table of these texts is no wider than asked, where its texts are printable and each of its columns has room for one character
abbrev pub KeepsWidth : Option ℕ → List ConfigEvent → Table → Table → Type 0
KeepsWidth width events texts table =
    (most : ℕ) → width ≡ Some most → CellsArePrintable texts → least_width 1 events texts ≤ most → text_width (look_of events table) (margin_set events) ≤ most

-- whether a style draws a line above the table, and one below it
abbrev pub draws_above : ReadyStyle → Bool
draws_above style = is_some (shown style).borders.top

abbrev pub draws_below : ReadyStyle → Bool
draws_below style = is_some (shown style).borders.bottom

-- the texts above and below a table, if there are any
abbrev pub title_of : Request → List (List ℕ) → Surroundings → Option (List ℕ)
title_of request words around = caption request.is_raw (width_asked request around) (word_at words request.title)

abbrev pub footer_of : Request → List (List ℕ) → Surroundings → Option (List ℕ)
footer_of request words around = caption request.is_raw (width_asked request around) (word_at words request.footer)

-- what is written for a table whose borders are drawn: the title on its first line, and then the footer on its last
abbrev pub titled : ReadyStyle → Option (List ℕ) → List ConfigEvent → Table → List ConfigEvent
titled style title before table = before ++ on_line (draws_above style) before table 0 title

abbrev pub captioned : ReadyStyle → Option (List ℕ) → Option (List ℕ) → List ConfigEvent → Table → List ConfigEvent
captioned style title footer before table =
    titled style title before table ++ on_line (draws_below style) (titled style title before table) table (length table) footer

-- the text of a table, in color or not
abbrev pub written : Bool → List ConfigEvent → Table → List ℕ
written is_colored events table = if is_colored then colored_text (painted events table) else text_of events table

-- a table as it is written: a title that has no room on it, its lines, each of which ends in a line feed, and a footer likewise
abbrev pub page : ReadyStyle → Option (List ℕ) → Option (List ℕ) → Bool → List ConfigEvent → Table → List ℕ
page style title footer is_colored events table =
    beside (draws_above style) table title ++ (written is_colored events table ++ 10 ∷ []) ++ beside (draws_below style) table footer

-- all that is written for the table: the style with its outlines and its captions, the sides at which its cells stand, and the colors
abbrev pub events_of : Request → ReadyStyle → List (List ℕ) → Surroundings → Table → Table → Table → List ConfigEvent
events_of request style words around rows texts table =
    (captioned style (title_of request words around) (footer_of request words around) (framed request style words rows texts) table ++ aligned 0 (sides_of request words rows))
    ++ colored_if (is_colored request around) request table

-- no line of a page is wider than asked for: so it is where its texts are of printable ASCII, where nothing stands above and below its table, and
-- no color in it, and where its table can be so narrow
abbrev pub FitsWidth : Request → ReadyStyle → List (List ℕ) → Surroundings → Table → Table → List ℕ → Type 0
FitsWidth request style words around rows texts text =
    (width : ℕ) → width_asked request around ≡ Some width → request.title ≡ None → request.footer ≡ None → is_colored request around ≡ false
    → CellsArePrintable texts → least_width 1 (framed request style words rows texts) texts ≤ width
    → (lines : List ℕ) × (text ≡ lines ++ 10 ∷ []) × (list_all (λ line. nat_le (width_of_text line) width) (pieces lines) ≡ true)

-- the page of a table of these texts, which has these rows, and what is said beside it
pub record IsPageOf (request : Request) (style : ReadyStyle) (words : List (List ℕ)) (around : Surroundings) (rows texts : Table) (text : List ℕ) (notes : Notes) : Type 0 where
  pub table : Table
  pub within : IsWithin request.cuts_off (width_asked request around) (framed request style words rows texts) texts table
  pub fits : FitsWidth request style words around rows texts text
  pub text_is :
      text ≡ page style (title_of request words around) (footer_of request words around) (is_colored request around) (events_of request style words around rows texts table) table
  pub notes_are : notes ≡ notes_of request around (framed request style words rows texts) table

abbrev pub IsPage : Request → ReadyStyle → List (List ℕ) → Surroundings → Table → List ℕ → Notes → Type 0
IsPage request style words around rows text notes = IsPageOf request style words around rows (texts_shown request rows) text notes

-- what is written for rows: nothing where there is none
abbrev pub IsViewOfRows : Request → ReadyStyle → List (List ℕ) → Surroundings → Table → List ℕ → Notes → Type 0
IsViewOfRows request style words around [] text notes = (text ≡ []) × (notes ≡ no_notes)
IsViewOfRows request style words around (row ∷ rows) text notes = IsPage request style words around (rows_shown request words (row ∷ rows)) text notes

-- what is written for an input, in a style
abbrev pub IsViewOfInput : Request → ReadyStyle → List (List ℕ) → Surroundings → List ℕ → List ℕ → Notes → Type 0
IsViewOfInput request style words around input text notes = IsViewOfRows request style words around (rows_in (cells_asked request words) input) text notes

-- the same in the style that is asked for
abbrev pub IsView : Request → List (List ℕ) → Surroundings → List ℕ → List ℕ → Notes → Type 0
IsView request words around input text notes =
    (style : ReadyStyle) × (style_asked request words around ≡ Some style)
    × IsViewOfInput request style words around input text notes

-- The page of rows: of their table, or nothing where there is none.
use Rattle.std.proofs.Common.{◌≡◌, ℕ, ◌<◌, ◌≤◌, Bool, true, false, Option, Some, None, List, [], ◌∷◌, ◌++◌, length, ap, ◌∙◌, append_assoc, append-nil, arith}
use Rattle.tabled_width.specs.Texts.{Table, pieces}
use Rattle.std.specs.List.{list_all}
use Rattle.tabled_configuration.specs.Configuration.{ConfigEvent, characters_of}
use Rattle.tabled_width.specs.Narrow.{IsRectangle}
use Rattle.tabled_printing.specs.Columns.{WritesNarrow, is_narrow_write}
use Rattle.tabled_painting.specs.Widths.{text_width}
use Rattle.tabled_measure.specs.Cells.{leaves_sizes, margin_set}
use Rattle.tabled_measure.specs.Changed.{CellsArePrintable}
use Rattle.tabled_text.specs.Fitted.{least_width}
use Rattle.tabled_text.specs.TextTable.{look_of}
use Rattle.tabled_style.specs.declared.ready_style.ReadyStyle.{ReadyStyle}
use Rattle.tabled_request.specs.declared.request.Request.{Request}
use Rattle.tabled_request.specs.declared.surroundings.Surroundings.{Surroundings}
use Rattle.tabled_request.specs.declared.sides.ColumnSide.{ColumnSide}
use Rattle.tabled_request.specs.Sides.{sides_of}
use Rattle.tabled_request.specs.Words.{word_at}
use Rattle.tabled_viewing.specs.Asked.{is_colored, width_asked}
use Rattle.tabled_viewing.specs.Captions.{beside, caption}
use Rattle.tabled_viewing.specs.Colors.{aligned, colored_if}
use Rattle.tabled_viewing.specs.Notes.{no_notes, notes_of}
use Rattle.tabled_viewing.specs.Rows.{rows_shown}
use Rattle.tabled_viewing.specs.View.{FitsWidth, IsPage, IsPageOf, IsViewOfRows, IsWithin, captioned, draws_above, draws_below, footer_of, framed, title_of, written}
use Rattle.tabled_viewing.specs.declared.notes.Notes.{Notes}
use Rattle.tabled_viewing.proofs.Outlined.{framed_narrow, nothing_framed}
use Rattle.tabled_viewing.proofs.Widths.{after_leaves, after_narrow, lines_within, plain_events, same_width}

module _ (request : Request) (style : ReadyStyle) (words : List (List ℕ)) (around : Surroundings) where
  pub view_none : (rows : Table) (text : List ℕ) (notes : Notes) → length rows ≤ 0 → text ≡ [] → notes ≡ no_notes → IsViewOfRows request style words around rows text notes
  view_none [] text notes none is said = (is, said)
  view_none (row ∷ rows) text notes none is said = absurd (omega arith)

  pub view_some : (rows : Table) (text : List ℕ) (notes : Notes) → 0 < length rows → IsPage request style words around (rows_shown request words rows) text notes
      → IsViewOfRows request style words around rows text notes
  view_some [] text notes some is = absurd (omega arith)
  view_some (row ∷ rows) text notes some is = is

-- a line feed ends the text between what stands above and what stands below
pub around_text : (above text below before after : List ℕ) → before ≡ above → after ≡ 10 ∷ below → before ++ text ++ after ≡ above ++ (text ++ 10 ∷ []) ++ below
around_text above text below before after first last = (λ i. first i ++ text ++ last i) ∙ simp append_assoc

-- the page of a table, by what was done to it one after the other
module _ (request : Request) (style : ReadyStyle) (words : List (List ℕ)) (around : Surroundings) (rows texts : Table) where
  abbrev before : List ConfigEvent
  before = framed request style words rows texts

  abbrev title : Option (List ℕ)
  title = title_of request words around

  abbrev footer : Option (List ℕ)
  footer = footer_of request words around

  -- the parts of a page, each by the table and the events that it was made by
  pub page_by_parts : (table first second third : Table) (sides : List ColumnSide) (in_color : Bool) (above below text whole : List ℕ) (notes : Notes)
      → IsWithin request.cuts_off (width_asked request around) before texts table
      → first ≡ table → second ≡ table → third ≡ table → sides ≡ sides_of request words rows → in_color ≡ is_colored request around
      → above ≡ beside (draws_above style) table title
      → below ≡ beside (draws_below style) first footer
      → text ≡ written in_color ((captioned style title footer before first ++ aligned 0 sides) ++ colored_if in_color request second) third
      → whole ≡ above ++ (text ++ 10 ∷ []) ++ below → FitsWidth request style words around rows texts whole
      → notes ≡ notes_of request around before table
      → IsPageOf request style words around rows texts whole notes
  page_by_parts table first second third sides in_color above below text whole notes within one two three by_sides by_color over under middle all fits said = record {
    table = table;
    within = within;
    fits = fits;
    text_is =
        all ∙ (λ i. over i ++ (middle i ++ 10 ∷ []) ++ under i)
        ∙ (λ i. beside (draws_above style) table title
        ++ (written (by_color i) ((captioned style title footer before (one i) ++ aligned 0 (by_sides i)) ++ colored_if (by_color i) request (two i)) (three i) ++ 10 ∷ [])
        ++ beside (draws_below style) (one i) footer);
    notes_are = said;
  }

  -- it fits its width, where its table in its style does
  pub page_fits : (table first second third : Table) (sides : List ColumnSide) (in_color : Bool) (above below lent text whole : List ℕ)
      → ((width : ℕ) → width_asked request around ≡ Some width → CellsArePrintable texts → least_width 1 before texts ≤ width
      → text_width (look_of before table) (margin_set before) ≤ width)
      → third ≡ table → in_color ≡ is_colored request around
      → above ≡ beside (draws_above style) table title
      → below ≡ beside (draws_below style) first footer
      → lent ≡ text → whole ≡ above ++ (lent ++ 10 ∷ []) ++ below
      → (let events = (captioned style title footer before first ++ aligned 0 sides) ++ colored_if in_color request second in
      in_color ≡ false → WritesNarrow events → leaves_sizes events ≡ true → IsRectangle (text_width (look_of events third) (margin_set events)) text)
      → FitsWidth request style words around rows texts whole
  page_fits table first second third sides in_color above below lent text whole fits three by_color over under same_text all even = λ width asked untitled unfooted plain printable few.
      let events : List ConfigEvent = (captioned style title footer before first ++ aligned 0 sides) ++ colored_if in_color request second in
      let uncolored : in_color ≡ false = by_color ∙ plain in
      let no_title : title ≡ None = ap (λ number. caption request.is_raw (width_asked request around) (word_at words number)) untitled in
      let no_footer : footer ≡ None = ap (λ number. caption request.is_raw (width_asked request around) (word_at words number)) unfooted in
      let are : events ≡ before ++ aligned 0 sides = plain_events request style title footer before sides in_color first second no_title no_footer uncolored in
      let rectangle : IsRectangle (text_width (look_of events third) (margin_set events)) text =
      even uncolored (ap (λ es. list_all is_narrow_write (characters_of es)) are ∙ after_narrow before sides (framed_narrow request style words rows texts))
      (ap leaves_sizes are ∙ after_leaves before sides (nothing_framed request style words rows texts)) in
      let same : text_width (look_of events third) (margin_set events) ≡ text_width (look_of before table) (margin_set before) =
      (λ i. text_width (look_of (are i) (three i)) (margin_set (are i))) ∙ same_width before sides table (nothing_framed request style words rows texts) in
      let most = fits width asked printable few in
      let nothing_above : above ≡ [] = over ∙ ap (beside (draws_above style) table) no_title in
      let nothing_below : below ≡ [] = under ∙ ap (beside (draws_below style) first) no_footer in (
        text,
        all ∙ (λ i. nothing_above i ++ (same_text i ++ 10 ∷ []) ++ nothing_below i) ∙ append-nil (text ++ 10 ∷ []),
        lines_within width (text_width (look_of events third) (margin_set events)) (pieces text) (omega (arith, same, most)) rectangle,
      )

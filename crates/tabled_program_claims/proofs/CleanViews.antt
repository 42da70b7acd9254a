-- Nothing steers in a page whose texts were cleaned.
use Rattle.std.proofs.Common.{◌≡◌, ◌==◌, ℕ, ◌+◌, ◌-◌, zero, suc, Bool, true, false, ◌&&◌, nat_lt, if◌then◌else◌, IfSome, option_map, Option, Some, None, List, [], ◌∷◌, ◌++◌, length, replicate, get_or, chars, codes, decimal, slice_index_or, ◌⊎◌, inl, inr, refl, sym, ap, subst, ◌∙◌, arith, lit<}
use Rattle.std.specs.List.{All, range_with_len, slice_get}
use Rattle.std.specs.Str.{IsUtf8}
use Rattle.std.proofs.Math.Utf8.{low_scalar, scalar, scalars}
use Rattle.std.proofs.lemmas.Bool.{and_from, and_parts}
use Rattle.std.proofs.lemmas.Bool.Decides.{nat_tests}
use Rattle.std.proofs.lemmas.List.Elements.{All-nil, All-cons, All-head, All-tail, All-append, All-map, All-take}
use Rattle.std.proofs.lemmas.Str.{scalars-chars, IsUtf8-nil}
use Rattle.tabled_clean.specs.Steering.{IsCleanText, cleaned, is_clean, picture, shown_for, steers, without_steering}
use Rattle.tabled_clean.proofs.SteeringLemmas.{cleaned_is_clean}
use Rattle.tabled_width.specs.declared.limit.Overflow.{Overflow}
use Rattle.tabled_width.specs.declared.limit.Overflow.TheVariants.{Wrap, WrapWords, Truncate}
use Rattle.tabled_rows.specs.Rows.{filled_to}
use Rattle.tabled_configuration.specs.Configuration.{ConfigEvent, borders_replaced}
use Rattle.tabled_width.specs.Texts.{Table}
use Rattle.tabled_style.specs.Border.{full_border}
use Rattle.tabled_style.specs.Named.{ready_applied, shown}
use Rattle.tabled_style.specs.declared.ready_style.ReadyStyle.{ReadyStyle}
use Rattle.tabled_options.specs.NamedLine.{row_line}
use Rattle.tabled_builder.specs.Records.{columns, filled}
use Rattle.tabled_measure.specs.Changed.{CellsAreClean, cells_changed, each_text, texts_of_columns, within}
use Rattle.tabled_text.specs.Fitted.{frame_width, shares}
use Rattle.tabled_measure.specs.Sizes.{cell, column_count}
use Rattle.tabled_text.specs.TextTable.{look_of, painted, text_of}
use Rattle.tabled_painting.specs.Painted.{Painted, plain}
use Rattle.tabled_painting.specs.PaintedTable.{colored_text}
use Rattle.tabled_measure.proofs.ChangedLemmas.{in_cells}
use Rattle.tabled_input.specs.Input.{rows_in}
use Rattle.tabled_input.specs.Selection.{first_number, number_text, numbered, row_numbers, selected_row, with_before}
use Rattle.tabled_object.specs.declared.entity.Entity.{Entity}
use Rattle.tabled_request.specs.Columns.{columns_named}
use Rattle.tabled_request.specs.Sides.{headings_of, sides_of}
use Rattle.tabled_request.specs.Words.{word_at}
use Rattle.tabled_request.specs.declared.request.Request.{Request}
use Rattle.tabled_request.specs.declared.sides.ColumnSide.{ColumnSide}
use Rattle.tabled_request.specs.declared.sides.ColumnSide.TheVariants as side
use Rattle.tabled_request.specs.declared.surroundings.Surroundings.{Surroundings}
use Rattle.tabled_viewing.specs.Asked.{cells_asked, is_colored, width_asked}
use Rattle.tabled_viewing.specs.Captions.{beside, caption, cut_to, has_room, lettering, on_line, shown_text, written_on_line}
use Rattle.tabled_viewing.specs.Colors.{aligned, aligned_column, colored_if}
use Rattle.tabled_viewing.specs.Outlines.{draws_boxes, line_of, marked, named, outlined, outlines, touch_of}
use Rattle.tabled_viewing.specs.Rows.{columns_chosen, first_rows, header_count, rows_filled, rows_shown, rows_taken, texts_shown, with_numbers}
use Rattle.tabled_viewing.specs.declared.notes.Notes.{Notes}
use Rattle.tabled_viewing.specs.View.{IsKeptBy, IsPage, IsView, IsViewOfRows, IsWithin, captioned, drawn, draws_above, draws_below, events_of, footer_of, framed, has_header_line, page, title_of, titled}
use Rattle.tabled_claims.specs.Clean.{EndsClean, WritesClean, is_clean_border, is_clean_if_given, is_quiet}
use Rattle.tabled_claims.proofs.Characters.{outline_writes, text_writes}
use Rattle.tabled_claims.proofs.CleanCharacters.{space_steers}
use Rattle.tabled_program_claims.proofs.CleanColors.{colored_clean}
use Rattle.tabled_program_claims.proofs.CleanPieces.{decimal_clean, printed}
use Rattle.tabled_program_claims.proofs.CleanLimits.{clean_both, clean_nil, clean_one, limited_clean, truncated_clean}
use Rattle.tabled_claims.proofs.CleanPictures.{lines_are_clean, text_quiet}
use Rattle.tabled_claims.proofs.CleanTexts.{Quiet, Quiet-append, Quiet-feed, Quiet-text, quiet_clean}
use Rattle.tabled_claims.proofs.CleanWrites.{clean_append, clean_only, clean_without}
use Rattle.tabled_program_claims.proofs.ReadTexts.{AreTexts, at_each, at_place, rows_are_texts}
use Rattle.tabled_claims.proofs.ReadyPlain.{class_clean, ready_clean}

-- ---- a cleaned text is a text

picture_scalar : (low delete : Bool) (c : ℕ) → nat_lt c 32 ≡ low → scalar (if low then 0x2400 + c else if delete then 0x2421 else 0xFFFD) ≡ true
picture_scalar true delete c e = low_scalar (0x2400 + c) (grind (arith, nat_tests))
picture_scalar false true c e = refl
picture_scalar false false c e = refl

shown_scalar : (c : ℕ) (is : Bool) → scalar c ≡ true → scalar (if is then picture c else c) ≡ true
shown_scalar c true e = picture_scalar (nat_lt c 32) _ c refl
shown_scalar c false e = e

scalars_left : (cs : List ℕ) → scalars cs ≡ true → scalars (without_steering cs) ≡ true
unfolding without_steering
scalars_left [] are = refl
scalars_left (c ∷ more) are =
    let here = and_parts (scalar c) (scalars more) are in
    by _ (scalars_left more here.1) (shown_scalar c (steers c) here.0)
  where
    by : (b : Bool) → scalars (without_steering more) ≡ true → scalar (shown_for c) ≡ true → scalars (if b then without_steering more else shown_for c ∷ without_steering more) ≡ true
    by true rest one = rest
    by false rest one = and_from (scalar (shown_for c)) (scalars (without_steering more)) one rest

pub stays_text : (text : List ℕ) → IsUtf8 text → IsUtf8 (cleaned text)
unfolding cleaned
stays_text text read = (without_steering (chars text), (scalars_left (chars text) (scalars-chars text read), refl))

cleaned_text : (text : List ℕ) → IsUtf8 text → IsCleanText (cleaned text)
cleaned_text text read = (stays_text text read, cleaned_is_clean text read)

-- ---- what is written

nothing_clean : WritesClean []
nothing_clean = clean_without [] refl refl

either_clean : (b : Bool) (first second : List ConfigEvent) → WritesClean first → WritesClean second → WritesClean (if b then first else second)
either_clean true first second one other = one
either_clean false first second one other = other

drawn_clean : (request : Request) (style : ReadyStyle) (rows : ℕ) → WritesClean (drawn request style rows)
drawn_clean request style rows =
    either_clean (has_header_line request style rows) (ready_applied style) (borders_replaced (shown style).borders [] []) (ready_clean style) (class_clean style)

-- what an outline is drawn with
line_clean : (boxes : Bool) → is_clean_border (if boxes then full_border 0x2501 0x2501 0x2503 0x2503 0x250F 0x2513 0x2517 0x251B else full_border 35 35 35 35 35 35 35 35) ≡ true
unfolding steers
line_clean true = refl
line_clean false = refl

touch_clean : (boxes : Bool) → is_clean_if_given (Some (if boxes then 0x254B else 35)) ≡ true
unfolding steers
touch_clean true = refl
touch_clean false = refl

outlined_clean : (style : ReadyStyle) (cells : Option (List Entity)) (table : Table) → WritesClean (outlined style cells table)
unfolding outlined
outlined_clean style None table = nothing_clean
outlined_clean style (Some cells) table =
    clean_only _ (outline_writes is_quiet (length table, column_count table) cells (Some (line_of style)) (Some (touch_of style)) None (line_clean (draws_boxes style)) (touch_clean (draws_boxes style)))

framed_clean : (request : Request) (style : ReadyStyle) (words : List (List ℕ)) (rows texts : Table) → WritesClean (framed request style words rows texts)
framed_clean request style words rows texts =
    clean_append (drawn request style (length texts)) (outlines request style words rows texts) (drawn_clean request style (length texts))
    (clean_append _ _ (outlined_clean style (option_map named (word_at words request.outline)) texts) (outlined_clean style (option_map (marked rows) (word_at words request.mark)) texts))

aligned_clean : (col : ℕ) (sides : List ColumnSide) → WritesClean (aligned col sides)
unfolding aligned
aligned_clean col [] = nothing_clean
aligned_clean col (here ∷ sides) = clean_append (aligned_column here col) (aligned (col + 1) sides) (column_clean here) (aligned_clean (col + 1) sides)
  where
    column_clean : (here : ColumnSide) → WritesClean (aligned_column here col)
    column_clean side.Left = nothing_clean
    column_clean side.Center = clean_without (aligned_column side.Center col) refl refl
    column_clean side.Right = clean_without (aligned_column side.Right col) refl refl

caption_written : (before : List ConfigEvent) (table : Table) (line : ℕ) (text : List ℕ) → IsCleanText text → WritesClean (written_on_line before table text line)
unfolding written_on_line
caption_written before table line text clean =
    let space = clean_one 32 (lit< tt) space_steers in
    let spaced = clean_both (32 ∷ []) (text ++ 32 ∷ []) space (clean_both text (32 ∷ []) clean space) in
    clean_only _ (text_writes is_quiet (lettering text line) (look_of before table) (row_line line) spaced.1)

on_line_clean : (is_drawn : Bool) (before : List ConfigEvent) (table : Table) (line : ℕ) (text : Option (List ℕ)) → IfSome text IsCleanText → WritesClean (on_line is_drawn before table line text)
on_line_clean is_drawn before table line None clean = nothing_clean
on_line_clean is_drawn before table line (Some text) clean =
    either_clean (is_drawn && has_room table text) (written_on_line before table text line) [] (caption_written before table line text clean) nothing_clean

beside_clean : (is_drawn : Bool) (table : Table) (text : Option (List ℕ)) → IfSome text IsCleanText → Quiet (beside is_drawn table text)
beside_clean is_drawn table None clean = Quiet-text [] clean_nil
beside_clean is_drawn table (Some text) clean = by (is_drawn && has_room table text)
  where
    by : (b : Bool) → Quiet (if b then [] else text ++ 10 ∷ [])
    by true = Quiet-text [] clean_nil
    by false = Quiet-append text (10 ∷ []) (Quiet-text text clean) Quiet-feed

-- ---- words that are texts

word_is_text : (words : List (List ℕ)) (n : ℕ) → All IsUtf8 words → IfSome (slice_get words n) IsUtf8
word_is_text [] n all = tt
word_is_text (word ∷ words) zero all = All-head IsUtf8 word words all
word_is_text (word ∷ words) (suc n) all = word_is_text words n (All-tail IsUtf8 word words all)

dots_clean : IsCleanText (46 ∷ 46 ∷ [])
dots_clean = printed (46 ∷ 46 ∷ []) refl

cut_clean : (width : Option ℕ) (text : List ℕ) → IsCleanText text → IsCleanText (cut_to width text)
cut_clean None text clean = clean
cut_clean (Some width) text clean = truncated_clean width (46 ∷ 46 ∷ []) text dots_clean clean

caption_clean : (is_raw : Bool) (width : Option ℕ) (text : Option (List ℕ)) → is_raw ≡ false → IfSome text IsUtf8 → IfSome (caption is_raw width text) IsCleanText
caption_clean is_raw width None raw is = tt
caption_clean is_raw width (Some text) raw is = by (length text == 0)
  where
    by : (b : Bool) → IfSome (if b then None else Some (cut_to width (shown_text is_raw text))) IsCleanText
    by true = tt
    by false = cut_clean width (shown_text is_raw text) (subst (λ raw. IsCleanText (shown_text raw text)) (sym raw) (cleaned_text text is))

-- ---- cells

empties : (count : ℕ) → All IsUtf8 (replicate count [])
empties zero = All-nil IsUtf8
empties (suc count) = All-cons IsUtf8 [] (replicate count []) IsUtf8-nil (empties count)

filled_texts : (width : ℕ) (row : List (List ℕ)) → All IsUtf8 row → All IsUtf8 (filled_to width row)
unfolding filled_to
filled_texts width row all = All-append IsUtf8 row (replicate (width - length row) []) all (empties (width - length row))

rows_texts : (request : Request) (rows : Table) → AreTexts rows → AreTexts (rows_filled request rows)
rows_texts request rows all = by request.fills
  where
    by : (fills : Bool) → AreTexts (if fills then filled rows else rows)
    by true = All-map (All IsUtf8) (filled_to (columns rows)) rows (λ k d inside. filled_texts (columns rows) (get_or rows k d) (all k d inside))
    by false = all

first_texts : (count : Option ℕ) (has_header : Bool) (rows : Table) → AreTexts rows → AreTexts (first_rows count has_header rows)
first_texts None has_header rows all = all
first_texts (Some count) has_header rows all = All-take (All IsUtf8) (header_count has_header + count) rows all

picked_texts : (columns : List ℕ) (row : List (List ℕ)) → All IsUtf8 row → All IsUtf8 (selected_row columns row)
picked_texts columns row all = All-map IsUtf8 (λ col. slice_index_or row col []) columns (λ k d inside. at_place IsUtf8 row IsUtf8-nil all (get_or columns k d))

chosen_texts : (request : Request) (word : Option (List ℕ)) (rows : Table) → AreTexts rows → AreTexts (columns_chosen request word rows)
chosen_texts request None rows all = all
chosen_texts request (Some word) rows all =
    let columns = columns_named word (headings_of request rows) (column_count rows) in
    All-map (All IsUtf8) (selected_row columns) rows (λ k d inside. picked_texts columns (get_or rows k d) (all k d inside))

number_texts : (row : ℕ) → IsUtf8 (number_text row)
number_texts row = by (row == 0)
  where
    by : (b : Bool) → IsUtf8 (if b then codes "#" else decimal row)
    by true = (printed (codes "#") refl).0
    by false = (decimal_clean row).0

put_texts : (texts : List (List ℕ)) (rows : Table) → All IsUtf8 texts → AreTexts rows → AreTexts (with_before texts rows)
put_texts [] rows are all = all
put_texts (text ∷ texts) [] are all = All-nil (All IsUtf8)
put_texts (text ∷ texts) (cells ∷ rows) are all =
    All-cons (All IsUtf8) (text ∷ cells) (with_before texts rows) (All-cons IsUtf8 text cells (All-head IsUtf8 text texts are) (All-head (All IsUtf8) cells rows all))
    (put_texts texts rows (All-tail IsUtf8 text texts are) (All-tail (All IsUtf8) cells rows all))

numbers_texts : (request : Request) (rows : Table) → AreTexts rows → AreTexts (with_numbers request rows)
numbers_texts request rows all = by request.has_row_numbers
  where
    by : (b : Bool) → AreTexts (if b then numbered request.has_header rows else rows)
    by true =
        let counted = range_with_len (first_number request.has_header) (length rows) in
        put_texts (row_numbers request.has_header (length rows)) rows (All-map IsUtf8 number_text counted (λ k d inside. number_texts (get_or counted k d))) all
    by false = all

shown_texts : (request : Request) (words : List (List ℕ)) (rows : Table) → AreTexts rows → AreTexts (rows_shown request words rows)
unfolding rows_shown
shown_texts request words rows all =
    let taken = rows_taken request rows in
    let word = word_at words request.columns in
    numbers_texts request (columns_chosen request word taken)
    (chosen_texts request word taken (first_texts request.head request.has_header (rows_filled request rows) (rows_texts request rows all)))

cells_clean : (request : Request) (rows : Table) → request.is_raw ≡ false → AreTexts rows → CellsAreClean (texts_shown request rows)
unfolding texts_shown
cells_clean request rows raw all =
    subst (λ raw. CellsAreClean (if raw then rows else cells_changed (each_text cleaned) rows)) (sym raw)
    (λ row col. in_cells IsCleanText clean_nil (each_text cleaned) rows row col (cleaned_text (cell (get_or rows row []) col) (at_each IsUtf8 rows IsUtf8-nil all row col)))

ends_clean : (cuts_off : Bool) (how : Overflow) → IsKeptBy cuts_off how → EndsClean how
ends_clean cuts_off Wrap kept = absurd kept
ends_clean cuts_off WrapWords kept = tt
ends_clean cuts_off (Truncate suffix) kept = subst IsCleanText (sym kept.1) dots_clean

kept_clean : (how : Overflow) (widths : List ℕ) (col : ℕ) (text : List ℕ) → EndsClean how → IsCleanText text → IsCleanText (within how (slice_get widths col) text)
kept_clean how widths col text ends clean = by (slice_get widths col)
  where
    by : (width : Option ℕ) → IsCleanText (within how width text)
    by None = clean
    by (Some width) = limited_clean how width text ends clean

within_clean : (cuts_off : Bool) (width : Option ℕ) (events : List ConfigEvent) (before after : Table) → IsWithin cuts_off width events before after → CellsAreClean before → CellsAreClean after
within_clean cuts_off None events before after same clean = subst CellsAreClean (sym same) clean
within_clean cuts_off (Some width) events before after kept clean =
    let how = kept.0 in
    let fitted = kept.2 in
    let widths = shares fitted.cap (width - frame_width events before) before in
    subst CellsAreClean (sym fitted.texts)
    (λ row col. in_cells IsCleanText clean_nil (texts_of_columns how widths) before row col
    (kept_clean how widths col (cell (get_or before row []) col) (ends_clean cuts_off how kept.1) (clean row col)))

-- ---- pages

-- in color: between texts in which nothing steers stand lines of which no character does
abbrev pub IsClearInColor : List ℕ → Type 0
IsClearInColor text =
    (above : List ℕ) × (below : List ℕ) × (lines : List Painted) × (text ≡ above ++ (colored_text lines ++ 10 ∷ []) ++ below)
    × (is_clean above ≡ true) × All (λ line. is_clean (plain line) ≡ true) lines × (is_clean below ≡ true)

module _ (request : Request) (style : ReadyStyle) (words : List (List ℕ)) (around : Surroundings) (raw : request.is_raw ≡ false) (all : All IsUtf8 words) where
  abbrev title : Option (List ℕ)
  title = title_of request words around

  abbrev footer : Option (List ℕ)
  footer = footer_of request words around

  given_clean : (number : Option ℕ) → IfSome (caption request.is_raw (width_asked request around) (word_at words number)) IsCleanText
  given_clean None = tt
  given_clean (Some n) = caption_clean request.is_raw (width_asked request around) (slice_get words n) raw (word_is_text words n all)

  captioned_clean : (before : List ConfigEvent) (table : Table) → WritesClean before → WritesClean (captioned style title footer before table)
  captioned_clean before table clean =
      let above = titled style title before table in
      clean_append above (on_line (draws_below style) above table (length table) footer)
      (clean_append before (on_line (draws_above style) before table 0 title) clean (on_line_clean (draws_above style) before table 0 title (given_clean request.title)))
      (on_line_clean (draws_below style) above table (length table) footer (given_clean request.footer))

  events_clean : (rows texts table : Table) → WritesClean (events_of request style words around rows texts table)
  events_clean rows texts table =
      let before = captioned style title footer (framed request style words rows texts) table in
      let sides = aligned 0 (sides_of request words rows) in
      clean_append (before ++ sides) (colored_if (is_colored request around) request table)
      (clean_append before sides (captioned_clean (framed request style words rows texts) table (framed_clean request style words rows texts)) (aligned_clean 0 (sides_of request words rows)))
      (colored_clean (is_colored request around) request table)

  above_clean : (table : Table) → Quiet (beside (draws_above style) table title)
  above_clean table = beside_clean (draws_above style) table title (given_clean request.title)

  below_clean : (table : Table) → Quiet (beside (draws_below style) table footer)
  below_clean table = beside_clean (draws_below style) table footer (given_clean request.footer)

  page_quiet : (rows texts table : Table) → CellsAreClean table → Quiet (page style title footer false (events_of request style words around rows texts table) table)
  page_quiet rows texts table clean =
      let events = events_of request style words around rows texts table in
      let body = text_of events table in
      let above = beside (draws_above style) table title in
      Quiet-append (above ++ (body ++ 10 ∷ [])) (beside (draws_below style) table footer)
      (Quiet-append above (body ++ 10 ∷ []) (above_clean table) (Quiet-append body (10 ∷ []) (text_quiet events table clean (events_clean rows texts table)) Quiet-feed))
      (below_clean table)

  table_clean : (rows table : Table) → CellsAreClean (texts_shown request rows)
      → IsWithin request.cuts_off (width_asked request around) (framed request style words rows (texts_shown request rows)) (texts_shown request rows) table → CellsAreClean table
  table_clean rows table clean within =
      within_clean request.cuts_off (width_asked request around) (framed request style words rows (texts_shown request rows)) (texts_shown request rows) table within clean

  page_clean : (rows : Table) (text : List ℕ) (notes : Notes) → is_colored request around ≡ false → CellsAreClean (texts_shown request rows) → IsPage request style words around rows text notes → is_clean text ≡ true
  page_clean rows text notes plain clean is =
      let table = is.table in
      let texts = texts_shown request rows in
      ap is_clean (is.text_is ∙ ap (λ in_color. page style title footer in_color (events_of request style words around rows texts table) table) plain)
      ∙ quiet_clean (page style title footer false (events_of request style words around rows texts table) table) (page_quiet rows texts table (table_clean rows table clean is.within))

  page_clear : (rows : Table) (text : List ℕ) (notes : Notes) → is_colored request around ≡ true → CellsAreClean (texts_shown request rows) → IsPage request style words around rows text notes → IsClearInColor text
  page_clear rows text notes in_color clean is =
      let table = is.table in
      let texts = texts_shown request rows in
      let events = events_of request style words around rows texts table in (
        beside (draws_above style) table title,
        beside (draws_below style) table footer,
        painted events table,
        is.text_is ∙ ap (λ in_color. page style title footer in_color events table) in_color,
        quiet_clean (beside (draws_above style) table title) (above_clean table),
        lines_are_clean events table (table_clean rows table clean is.within) (events_clean rows texts table),
        quiet_clean (beside (draws_below style) table footer) (below_clean table),
      )

  rows_clean : (rows : Table) (text : List ℕ) (notes : Notes) → is_colored request around ≡ false → AreTexts rows → IsViewOfRows request style words around rows text notes → is_clean text ≡ true
  rows_clean [] text notes plain texts is = ap is_clean is.0 ∙ clean_nil.1
  rows_clean (row ∷ rows) text notes plain texts is =
      let shown = rows_shown request words (row ∷ rows) in
      page_clean shown text notes plain (cells_clean request shown raw (shown_texts request words (row ∷ rows) texts)) is

  rows_clear : (rows : Table) (text : List ℕ) (notes : Notes) → is_colored request around ≡ true → AreTexts rows → IsViewOfRows request style words around rows text notes → (text ≡ []) ⊎ IsClearInColor text
  rows_clear [] text notes in_color texts is = inl is.0
  rows_clear (row ∷ rows) text notes in_color texts is =
      let shown = rows_shown request words (row ∷ rows) in
      inr (page_clear shown text notes in_color (cells_clean request shown raw (shown_texts request words (row ∷ rows) texts)) is)

pub view_clean : (request : Request) (words : List (List ℕ)) (around : Surroundings) (input text : List ℕ) (notes : Notes) → request.is_raw ≡ false → is_colored request around ≡ false → All IsUtf8 words → IsUtf8 input
    → IsView request words around input text notes → is_clean text ≡ true
view_clean request words around input text notes raw plain all read is =
    rows_clean request is.0 words around raw all (rows_in (cells_asked request words) input) text notes plain (rows_are_texts (cells_asked request words) input read) is.2

pub view_clear : (request : Request) (words : List (List ℕ)) (around : Surroundings) (input text : List ℕ) (notes : Notes) → request.is_raw ≡ false → is_colored request around ≡ true → All IsUtf8 words → IsUtf8 input
    → IsView request words around input text notes → (text ≡ []) ⊎ IsClearInColor text
view_clear request words around input text notes raw in_color all read is =
    rows_clear request is.0 words around raw all (rows_in (cells_asked request words) input) text notes in_color (rows_are_texts (cells_asked request words) input read) is.2

-- A table whose columns share a room is no wider than it may be.
use Rattle.std.proofs.Common.{◌≡◌, ⊎_elim, ℕ, ◌+◌, ◌-◌, ◌<◌, ◌≤◌, zero, suc, max, nat_le, sum, true, false, Bool, if◌then◌else◌, get_or, unwrap_or, Ordering, ◌==◌, Some, None, List, [], ◌∷◌, map, length, refl, sym, ap, subst, ◌∙◌, arith}
use Rattle.std.specs.Prelude.{slice_index, slice_get}
use Rattle.std.specs.Str.{IsUtf8}
use Rattle.std.specs.List.{sum_by}
use Rattle.std.proofs.lemmas.Bool.{cases_lt, le-leb, eqb-true}
use Rattle.std.specs.Cmp.{first_so, second_so}
use Rattle.std.specs.FinMap.{FinMap, len, get, get-empty, empty_of_len}
use Rattle.std.proofs.lemmas.Bool.Decides.{nat_tests}
use Rattle.std.proofs.lemmas.Option.{slice_get-get_or}
use Rattle.std.proofs.lemmas.List.{length-map, get_or-map, get_or_default}
use Rattle.tabled_object.specs.Entities.{below, position}
use Rattle.tabled_places.specs.Drawn.{drawn}
use Rattle.tabled_places.specs.declared.place.LineOf.{LineOf}
use Rattle.tabled_settings.specs.Live.{value_at}
use Rattle.tabled_configuration.specs.Configuration.{ConfigEvent, characters_of}
use Rattle.tabled_layout.specs.declared.margin.Margin.{Margin}
use Rattle.tabled_printing.specs.Along.{is_empty}
use Rattle.tabled_printing.specs.Columns.{line_width}
use Rattle.tabled_printing.specs.Picture.{Look, look}
use Rattle.tabled_width.specs.Texts.{Table, pieces, width_of_text, LinesFit}
use Rattle.tabled_painting.specs.Widths.{text_width}
use Rattle.tabled_width.specs.declared.limit.Overflow.{Overflow}
use Rattle.tabled_width.specs.declared.limit.Overflow.TheVariants.{Wrap, WrapWords, Truncate}
use Rattle.tabled_width.specs.Limited.{ends_printable, limited}
use Rattle.tabled_width.specs.Shares.{used, shared}
use Rattle.tabled_width.proofs.LimitedLaws.{limited_fits, printable_can_fit}
use Rattle.tabled_width.proofs.TextLaws.{wrapped_same, words_same, truncated_same}
use Rattle.tabled_width.proofs.Sharing.{shares_fit, length_shared, step_small, step_great}
use Rattle.tabled_rooms.proofs.CellRooms.{alone_within, greatest_at}
use Rattle.tabled_painting.specs.PaintedSpans.{columns_spanned, rows_spanned}
use Rattle.tabled_measure.specs.Cells.{settings_set, cells_set, margin_set, leaves_sizes, sets_no_spans, sets_no_padding}
use Rattle.tabled_measure.specs.Changed.{CellsArePrintable, texts_of_columns, within}
use Rattle.tabled_text.specs.Fitted.{IsFitted, CanShare, frame_width, least_width, padding_across, shares, texts_asked}
use Rattle.tabled_measure.specs.Sizes.{cell, column_count, column_widths, row_heights, unequal_row, width_asked, padded_width, width_with_padding}
use Rattle.tabled_text.specs.TextTable.{look_of, look_with_spans, look_printed, widths_with_spans, heights_with_spans}
use Rattle.tabled_measure.proofs.ChangedLemmas.{cells_at, counts_stay, length_cells, place_at, same_columns}
use Rattle.tabled_measure.proofs.EqualRows.{all_equal}
use Rattle.tabled_measure.proofs.Measuring.{column_room, greatest_most}
use Rattle.tabled_cells.proofs.Fits.{greatest_bound}
use Rattle.tabled_text.proofs.Frames.{across_unset}
use Rattle.tabled_text.proofs.ShareSums.{sum_bound}
use Rattle.tabled_measure.proofs.Widths.{count_widths, width-at}

-- ---- columns within their shares

at_most : (n m : ℕ) → nat_le n m ≡ true → n ≤ m
at_most n m e = grind (arith, nat_tests, e)

asked_within : (width : ℕ) (text : List ℕ) → LinesFit width text → width_asked text ≤ width + 2
unfolding width_asked
asked_within width text fit =
    let most = greatest_most width_of_text width (pieces text) (λ k d inside. at_most _ width (fit k d inside)) in
    omega (arith, most)

-- only a column that asks for nothing has no share
no_share : (cap left : ℕ) (asked : List ℕ) (col : ℕ) → 1 ≤ cap → col < length asked → get_or (shared cap left asked) col 0 ≡ 0 → get_or asked col 0 ≡ 0
no_share cap left [] col some inside none = absurd (omega (arith, inside))
no_share cap left (n ∷ ns) zero some inside none =
    ⊎_elim
    (λ (lt : cap < n). absurd (let e = ap (λ xs. get_or xs 0 0) (step_great cap left n ns lt) in omega (arith, e, none, some)))
    (λ (le : n ≤ cap). sym (ap (λ xs. get_or xs 0 0) (step_small cap left n ns le)) ∙ none)
    (cases_lt cap n)
no_share cap left (n ∷ ns) (suc col) some inside none =
    ⊎_elim
    (λ (lt : cap < n). no_share cap (left - 1) ns col some (omega (arith, inside)) (sym (ap (λ xs. get_or xs (suc col) 0) (step_great cap left n ns lt)) ∙ none))
    (λ (le : n ≤ cap). no_share cap left ns col some (omega (arith, inside)) (sym (ap (λ xs. get_or xs (suc col) 0) (step_small cap left n ns le)) ∙ none))
    (cases_lt cap n)

limited_same : (how : Overflow) (width : ℕ) (text : List ℕ) → LinesFit width text → limited how width text ≡ text
limited_same Wrap width text fit = wrapped_same width text fit
limited_same WrapWords width text fit = words_same width text fit
limited_same (Truncate suffix) width text fit = truncated_same width suffix.now text fit

-- the lines of a text that asks for no columns
empty_fits : (text : List ℕ) → width_asked text ≤ 2 → LinesFit 0 text
unfolding width_asked
empty_fits text few k d inside =
    let most = greatest_bound width_of_text 0 (pieces text) k d inside in
    le-leb (width_of_text (get_or (pieces text) k d)) 0 (omega (arith, most, few))

module _ (how : Overflow) (least : ℕ) (before after : Table) (room : ℕ) (some_least : 1 ≤ least) (equal : unequal_row before ≡ None) (utf8 : (r c : ℕ) → IsUtf8 (cell (get_or before r []) c))
    (fitted : IsFitted how least room before after) (can : CanShare how least room before) where
  abbrev share : ℕ → ℕ
  share col = get_or (shares fitted.cap room before) col 0

  counted : length (shares fitted.cap room before) ≡ column_count before
  counted = length_shared fitted.cap _ (texts_asked before) ∙ length-map (column_widths before) (λ width. width - 2) ∙ count_widths before

  asked_at : (col : ℕ) → col < column_count before → get_or (texts_asked before) col 0 ≡ slice_index (column_widths before) col - 2
  asked_at col inside = get_or-map (λ width. width - 2) (column_widths before) col 0 0 (omega (arith, inside, count_widths before))

  -- a text that is kept within its share fits
  text_fits : (row col : ℕ) → row < length before → col < column_count before → LinesFit (share col) (limited how (share col) (cell (get_or before row []) col))
  text_fits row col row_inside inside = ⊎_elim
      (λ (some : 0 < share col). limited_fits how (share col) (cell (get_or before row []) col) (utf8 row col) (can fitted.cap fitted.is_cap row col (omega (arith, some))))
      (λ (none : share col ≤ 0).
      let no : share col ≡ 0 = omega (arith, none) in
      let unasked = no_share fitted.cap _ (texts_asked before) col (let most = fitted.is_cap.some in omega (arith, most, some_least)) (omega (arith, inside, counted, length_shared fitted.cap (room - used fitted.cap (texts_asked before)) (texts_asked before))) no in
      let wide = column_room before row col row_inside inside in
      let fit = empty_fits (cell (get_or before row []) col) (omega (arith, wide, unasked, asked_at col inside)) in
      let at_share : LinesFit (share col) (cell (get_or before row []) col) = subst (λ n. LinesFit n (cell (get_or before row []) col)) (sym no) fit in
      subst (LinesFit (share col)) (sym (limited_same how (share col) (cell (get_or before row []) col) at_share)) at_share)
      (cases_lt 0 (share col))

  -- so each cell asks for its share and two spaces at most, and each column takes no more
  cell_within : (row col : ℕ) → row < length before → col < column_count before → width_asked (cell (get_or after row []) col) ≤ share col + 2
  cell_within row col row_inside inside =
      let change : ℕ → ℕ → List ℕ → List ℕ = texts_of_columns how (shares fitted.cap room before) in
      let old : List (List ℕ) = get_or before row [] in
      let long : length old ≡ column_count before = all_equal (column_count before) 0 before equal row row_inside in
      let has : slice_get (shares fitted.cap room before) col ≡ Some (share col) = slice_get-get_or (shares fitted.cap room before) col 0 (omega (arith, inside, counted)) in
      let new : cell (get_or after row []) col ≡ limited how (share col) (cell old col) =
      ap (λ table. cell (get_or table row []) col) fitted.texts
      ∙ ap (λ cells. cell cells col) (cells_at change before row row_inside)
      ∙ place_at (change row) old col (omega (arith, inside, long))
      ∙ ap (λ width. within how width (cell old col)) has in
      subst (λ text. width_asked text ≤ share col + 2) (sym new) (asked_within (share col) (limited how (share col) (cell old col)) (text_fits row col row_inside inside))

  rows_stay : length after ≡ length before
  rows_stay = ap length fitted.texts ∙ length_cells (texts_of_columns how (shares fitted.cap room before)) before

  columns_stay : column_count after ≡ column_count before
  columns_stay = same_columns before after (ap (map length) fitted.texts ∙ counts_stay (texts_of_columns how (shares fitted.cap room before)) before)

  pub column_within : (col : ℕ) → col < column_count before → slice_index (column_widths after) col ≤ share col + 2
  column_within col inside =
      let here = width-at after col (omega (arith, inside, columns_stay)) in
      let most = greatest_most (λ row. width_asked (cell row col)) (share col + 2) after (λ row d row_inside.
      let within : row < length before = omega (arith, row_inside, rows_stay) in
      subst (λ cells. width_asked (cell cells col) ≤ share col + 2) (get_or_default after row [] d row_inside) (cell_within row col within inside)) in
      omega (arith, here, most)

-- ---- the whole line

-- how wide a table with places is: as its columns and its lines are, and the sides of its margin
width_of_places : (view : Look) (margin : Margin) → is_empty view.shape ≡ false
    → text_width view margin ≡ margin.size.left.size + (sum_by (λ n. line_width view n + view.widths n) (below view.shape.1) + line_width view view.shape.1) + margin.size.right.size
width_of_places view margin some =
    ap (λ b. if b then 0 else margin.size.left.size + (sum_by (λ n. line_width view n + view.widths n) (below view.shape.1) + line_width view view.shape.1) + margin.size.right.size) some

-- where no cell spans, each is shown over its own column and row
none_over : {K : Type 0} {R : K → K → Ordering} (spans : FinMap R ℕ) (key : K) → (len spans == 0) ≡ true → max (unwrap_or (get spans key) 1) 1 ≤ 1
none_over {K} {R} spans key none =
    let nothing : get spans key ≡ None = ap (λ m. get m key) (empty_of_len spans (eqb-true (len spans) 0 none)) ∙ get-empty R key in
    let one : max (unwrap_or (get spans key) 1) 1 ≡ 1 = ap (λ found. max (unwrap_or found 1) 1) nothing in
    omega (arith, one)

module _ (es : List ConfigEvent) (how : Overflow) (least : ℕ) (before after : Table) (total : ℕ) (some_least : 1 ≤ least) (equal : unequal_row before ≡ None) (utf8 : (r c : ℕ) → IsUtf8 (cell (get_or before r []) c))
    (fitted : IsFitted how least (total - frame_width es before) before after) (can : CanShare how least (total - frame_width es before) before) (few : least_width least es before ≤ total) where
  abbrev room : ℕ
  room = total - frame_width es before

  abbrev shape : ℕ × ℕ
  shape = (length before, column_count before)

  abbrev padding : ℕ → ℕ
  padding = padding_across (cells_set es) (length before)

  abbrev bare : Look
  bare = look es shape padding (λ r. 1)

  abbrev given : List ℕ
  given = shares fitted.cap room before

  rows_same : length after ≡ length before
  rows_same = rows_stay how least before after room some_least equal utf8 fitted can

  columns_same : column_count after ≡ column_count before
  columns_same = columns_stay how least before after room some_least equal utf8 fitted can

  -- a table whose columns take no more than their padding and their shares
  module _ (widths heights : ℕ → ℕ) (within : 0 < length before → (col : ℕ) → col < column_count before → widths col ≤ padding col + get_or given col 0) where
    abbrev wide : Look
    wide = look es shape widths heights

    columns_bound : 0 < length before → sum_by (λ n. line_width wide n + widths n) (below (column_count before)) ≤ sum_by (λ n. line_width bare n + padding n) (below (column_count before)) + sum given
    columns_bound rows =
        let long = counted how least before after room some_least equal utf8 fitted can in
        subst (λ count. sum_by (λ n. line_width wide n + widths n) (below count) ≤ sum_by (λ n. line_width bare n + padding n) (below count) + sum given) long
        (sum_bound (λ n. line_width bare n + padding n) (λ n. line_width wide n + widths n) 0 given (λ col inside.
        let most = within rows col (omega (arith, inside, long)) in
        let place : col ≡ 0 + col = omega arith in
        subst (λ n. line_width wide n + widths n ≤ line_width bare n + padding n + get_or given col 0) place (omega (arith, most))))

    by_places : (b : Bool) → is_empty shape ≡ b → text_width wide (margin_set es) ≤ total
    by_places true none =
        let nothing : text_width wide (margin_set es) ≡ 0 = ap (λ b. if b then 0 else (margin_set es).size.left.size
        + (sum_by (λ n. line_width wide n + widths n) (below (column_count before)) + line_width wide (column_count before)) + (margin_set es).size.right.size) none in
        omega (arith, nothing)
    by_places false some =
        let rows : 0 < length before = grind (arith, nat_tests, some) in
        let whole = width_of_places wide (margin_set es) some in
        let frame = width_of_places bare (margin_set es) some in
        let most = shares_fit least room fitted.cap (texts_asked before) fitted.is_cap (omega (arith, few)) in
        let bound = columns_bound rows in
        omega (arith, whole, frame, bound, most, few)

  -- where no cell spans and no padding is set
  alone_bound : leaves_sizes es ≡ true → text_width (look_of es after) (margin_set es) ≤ total
  alone_bound leaves =
      let widths : ℕ → ℕ = slice_index (column_widths after) in
      let heights : ℕ → ℕ = slice_index (row_heights after) in
      let none = second_so (sets_no_spans es) (sets_no_padding es) leaves in
      let same : text_width (look_of es after) (margin_set es) ≡ text_width (look es shape widths heights) (margin_set es) = (λ i. text_width (look es (rows_same i, columns_same i) widths heights) (margin_set es)) in
      let most = by_places widths heights (λ rows col inside.
      let own = column_within how least before after room some_least equal utf8 fitted can col inside in
      let two = across_unset (cells_set es) (length before) col none rows in
      omega (arith, own, two)) (is_empty shape) refl in
      omega (arith, same, most)

  -- what a cell asks for with its padding
  padded_within : (row col : ℕ) → row < length before → col < column_count before → width_with_padding (cells_set es) after row col ≤ padding col + get_or given col 0
  unfolding padded_width width_asked padding_across
  padded_within row col within inside =
      let own = cell_within how least before after room some_least equal utf8 fitted can row col within inside in
      let great = greatest_at (λ row. (value_at (cells_set es).padding (position row col)).left.size + (value_at (cells_set es).padding (position row col)).right.size) (length before) row within in
      omega (arith, own, great)

  -- where padding is set
  padded_bound : sets_no_spans es ≡ true → text_width (look_with_spans es after) (margin_set es) ≤ total
  unfolding widths_with_spans
  padded_bound alone =
      let settings = settings_set es in
      let columns = columns_spanned settings in
      let rows = rows_spanned settings in
      let widths : ℕ → ℕ = slice_index (widths_with_spans settings es after) in
      let heights : ℕ → ℕ = slice_index (heights_with_spans settings es after) in
      let same : text_width (look_with_spans es after) (margin_set es) ≡ text_width (look es shape widths heights) (margin_set es) = (λ i. text_width (look es (rows_same i, columns_same i) widths heights) (margin_set es)) in
      let no_columns = first_so (len settings.column_spans == 0) (len settings.row_spans == 0) alone in
      let no_rows = second_so (len settings.column_spans == 0) (len settings.row_spans == 0) alone in
      let most = by_places widths heights (λ some col inside.
      alone_within columns rows (λ r c. none_over settings.column_spans (position r c) no_columns) (λ r c. none_over settings.row_spans (position r c) no_rows) (length after, column_count after)
      (width_with_padding settings.cells after) (λ n. drawn (characters_of es) (column_count after) (LineOf.Vertical n)) col (padding col + get_or given col 0) (omega (arith, inside, columns_same))
      (λ row within. padded_within row col (omega (arith, within, rows_same)) inside)) (is_empty shape) refl in
      omega (arith, same, most)

  pub fits_total : sets_no_spans es ≡ true → text_width (look_printed es after) (margin_set es) ≤ total
  fits_total alone = by (leaves_sizes es) refl
    where
      by : (leaves : Bool) → leaves_sizes es ≡ leaves → text_width (if leaves then look_of es after else look_with_spans es after) (margin_set es) ≤ total
      by true is = alone_bound is
      by false is = padded_bound alone

-- ---- texts of printable ASCII

pub printable_can_share : (how : Overflow) (least room : ℕ) (table : Table) → ends_printable how ≡ true → CellsArePrintable table → CanShare how least room table
printable_can_share how least room table ends printable cap is row col some =
    printable_can_fit how (slice_index (shares cap room table) col) (cell (get_or table row []) col) some ends (printable row col)

-- Nothing in the picture of a table steers a terminal, where nothing in its cells does, nor among the characters that its options write.
use Rattle.std.proofs.Common.{◌≡◌, ◌==◌, ℕ, ◌+◌, ◌-◌, Bool, true, false, not, ltb, ◌&&◌, if◌then◌else◌, Option, None, List, [], ◌∷◌, ◌++◌, map, length, replicate, get_or, refl, sym, subst}
use Rattle.std.specs.Prelude.{slice_index, slice_index_or}
use Rattle.std.specs.List.{All, flat_map}
use Rattle.std.proofs.lemmas.Bool.{ltb-true}
use Rattle.std.proofs.lemmas.List.Elements.{All-nil, All-cons, All-head, All-tail, All-append, All-map, All-replicate}
use Rattle.tabled_clean.specs.Steering.{IsCleanText, steers, is_clean}
use Rattle.tabled_border.specs.Texts.{Texts}
use Rattle.tabled_object.specs.Entities.{below}
use Rattle.tabled_places.specs.declared.place.Place.{Place}
use Rattle.tabled_places.specs.declared.place.LineOf.{LineOf}
use Rattle.tabled_settings.specs.declared.cell_settings.CellSettings.{CellSettings}
use Rattle.tabled_settings.specs.declared.indent.Indent.{Indent}
use Rattle.tabled_settings.specs.declared.sides.Sides.{Sides}
use Rattle.tabled_settings.specs.Live.{value_at}
use Rattle.tabled_layout.specs.declared.margin.Margin.{Margin}
use Rattle.tabled_configuration.specs.Configuration.{ConfigEvent}
use Rattle.tabled_printing.specs.Along.{is_empty, along, crossing_at}
use Rattle.tabled_printing.specs.Picture.{Look, character, look, mark_at, marks_along}
use Rattle.tabled_width.specs.Texts.{Table, width_of_text}
use Rattle.tabled_cells.specs.declared.placement.Placement.{Placement}
use Rattle.tabled_cells.specs.Placed.{times, lines_above as cell_lines_above, free_before, fills, fill_of, line_parts, aligned_width}
use Rattle.tabled_cells.specs.Placements.{placement_at}
use Rattle.tabled_cells.specs.Trimmed.{lines_shown}
use Rattle.tabled_painting.specs.Painted.{Painted, paint, plain}
use Rattle.tabled_painting.specs.CellLines.{Coloring, coloring_at, painted_line, cell_line}
use Rattle.tabled_painting.specs.Margin.{Side, side_at, is_left_out, between_sides, strip, in_margin, left_side, right_side, top_side, bottom_side}
use Rattle.tabled_painting.specs.PaintedTable.{Cells, painted_mark, painted_marks, painted_side, painted_if_drawn, painted_cell, plain_text}
use Rattle.tabled_painting.specs.PaintedSpans.{columns_spanned, painted_as_set, rows_spanned, painted_crossing, painted_edge, lines_above, room_wide, room_high, room_line, spanned_piece, spanned_between, crossed_piece, spanned_across, spanned_if_drawn, spanned_row, spanned_lines, spanned_table, spanned_cells}
use Rattle.tabled_rooms.specs.Hosts.{Cell, Counts, host}
use Rattle.tabled_painting.proofs.PainterLemmas.{plain_paint}
use Rattle.tabled_painting.proofs.Plain.{plain_both}
use Rattle.tabled_measure.specs.Sizes.{column_count, column_widths, row_heights}
use Rattle.tabled_measure.specs.Cells.{cells_set, cell_colors, settings_set, leaves_sizes}
use Rattle.tabled_text.specs.TextTable.{look_of, look_with_spans, painted, text_of, widths_with_spans, heights_with_spans}
use Rattle.tabled_claims.specs.Clean.{WritesClean}
use Rattle.tabled_measure.specs.Changed.{CellsAreClean}
use Rattle.tabled_claims.proofs.CleanCharacters.{space_steers, fill_steers}
use Rattle.tabled_claims.proofs.CleanBorders.{borders_steer}
use Rattle.tabled_claims.proofs.CleanTexts.{Quiet, Quiet-one, Quiet-nil, Quiet-append, Quiet-text, Quiet-times, Quiet-joined, quiet_clean, shown_clean}

-- ---- painted lines

-- a painted line of characters of which none steers
abbrev pub QuietLine : Painted → Type 0
QuietLine line = Quiet (plain line)

both_quiet : (xs ys : Painted) → QuietLine xs → QuietLine ys → QuietLine (xs ++ ys)
both_quiet xs ys first second = subst Quiet (sym (plain_both xs ys)) (Quiet-append (plain xs) (plain ys) first second)

paint_quiet : (color : Option Texts) (text : List ℕ) → Quiet text → QuietLine (paint color text)
paint_quiet color text quiet = subst Quiet (sym (plain_paint color text)) quiet

flat_quiet : {X : Type 0} (f : X → Painted) (xs : List X) → ((x : X) → QuietLine (f x)) → QuietLine (flat_map f xs)
flat_quiet f [] each = Quiet-nil
flat_quiet f (x ∷ xs) each = both_quiet (f x) (flat_map f xs) (each x) (flat_quiet f xs each)

All-flat : {X : Type 0} (f : X → List Painted) (xs : List X) → ((x : X) → All QuietLine (f x)) → All QuietLine (flat_map f xs)
All-flat f [] each = All-nil QuietLine
All-flat f (x ∷ xs) each = All-append QuietLine (f x) (flat_map f xs) (each x) (All-flat f xs each)

-- ---- cells

times_quiet : (color : Option Texts) (count character : ℕ) → steers character ≡ false → QuietLine (paint color (times count character))
times_quiet color count character e = paint_quiet color (times count character) (Quiet-times count character e)

fill_quiet : (fits : Bool) (character : ℕ) → steers character ≡ false → steers (if fits then character else 32) ≡ false
fill_quiet true character e = e
fill_quiet false character e = space_steers

-- a padding whose characters do not steer
record QuietPadding (padding : Sides Indent) : Type 0 where
  left : steers padding.left.fill ≡ false
  right : steers padding.right.fill ≡ false
  top : steers padding.top.fill ≡ false
  bottom : steers padding.bottom.fill ≡ false

-- so is any as it is shown
padding_quiet : (settings : CellSettings) (r c : ℕ) → QuietPadding (placement_at settings r c).padding
unfolding placement_at
padding_quiet settings r c =
    let padding = value_at settings.padding (record { row = r; col = c }) in
    record { left = fill_steers padding.left.fill; right = fill_steers padding.right.fill; top = fill_steers padding.top.fill; bottom = fill_steers padding.bottom.fill }

line_quiet : (how : Placement) (colors : Coloring) (width aligned : ℕ) (line : List ℕ) → QuietPadding how.padding → steers how.justification ≡ false → Quiet line → QuietLine (painted_line how colors width aligned line)
unfolding painted_line line_parts
line_quiet how colors width aligned line padded filling quiet =
    let padding = how.padding in
    let free : ℕ = width - padding.left.size - padding.right.size in
    let before : ℕ = free_before how.alignment_horizontal (free - aligned) in
    let after : ℕ = free - before - width_of_text line in
    let fill : ℕ = fill_of how.justification line in
    let first : Painted = paint colors.padding.left (times padding.left.size padding.left.fill) in
    let last : Painted = paint colors.padding.right (times padding.right.size padding.right.fill) in
    let filled : (count : ℕ) → QuietLine (paint colors.fill (times count fill)) = λ count. paint_quiet colors.fill (times count fill)
    (Quiet-times count fill (fill_quiet (fills how.justification line) how.justification filling)) in
    both_quiet (first ++ paint colors.fill (times before fill) ++ paint colors.text line ++ paint colors.fill (times after fill)) last
    (both_quiet (first ++ paint colors.fill (times before fill) ++ paint colors.text line) (paint colors.fill (times after fill))
    (both_quiet (first ++ paint colors.fill (times before fill)) (paint colors.text line)
    (both_quiet first (paint colors.fill (times before fill)) (times_quiet colors.padding.left padding.left.size padding.left.fill padded.left) (filled before))
    (paint_quiet colors.text line quiet)) (filled after)) (times_quiet colors.padding.right padding.right.size padding.right.fill padded.right)

module _ (how : Placement) (colors : Coloring) (width height : ℕ) (lines : List (List ℕ)) (n : ℕ) where
  abbrev above : ℕ
  above = cell_lines_above how height (length lines)

  abbrev line : List ℕ
  line = get_or lines (n - above) []

  by_place : (first second : Bool) → ltb (n - above) (length lines) ≡ second → QuietPadding how.padding → steers how.justification ≡ false → All IsCleanText lines
      → QuietLine (if first then paint colors.padding.top (times width how.padding.top.fill) else if second then painted_line how colors width (aligned_width how lines line) line else paint colors.padding.bottom (times width how.padding.bottom.fill))
  by_place true second is padded filling all = times_quiet colors.padding.top width how.padding.top.fill padded.top
  by_place false true is padded filling all =
      line_quiet how colors width (aligned_width how lines line) line padded filling (Quiet-text line (all (n - above) [] (ltb-true (n - above) (length lines) is)))
  by_place false false is padded filling all = times_quiet colors.padding.bottom width how.padding.bottom.fill padded.bottom

  cell_quiet : QuietPadding how.padding → steers how.justification ≡ false → All IsCleanText lines → QuietLine (cell_line how colors width height lines n)
  unfolding cell_line
  cell_quiet padded filling all = by_place (ltb n above) (ltb (n - above) (length lines)) refl padded filling all

-- ---- sides of a margin

side_quiet : (side : Side) (extent n count : ℕ) → steers side.fill ≡ false → QuietLine (side_at side extent n count)
unfolding side_at
side_quiet side extent n count e = by_offset (is_left_out side.offset extent n)
  where
    by_offset : (out : Bool) → QuietLine (if out then paint None (times count 32) else paint side.color (times count side.fill))
    by_offset true = times_quiet None count 32 space_steers
    by_offset false = times_quiet side.color count side.fill e

strips_quiet : (side : Side) (long count : ℕ) → steers side.fill ≡ false → All QuietLine (replicate count (strip side long))
strips_quiet side long count e = All-replicate QuietLine count (strip side long) (flat_quiet (λ n. side_at side long n 1) (below long) (λ n. side_quiet side long n 1 e))

between_quiet : (left right : Side) (high n : ℕ) (lines : List Painted) → steers left.fill ≡ false → steers right.fill ≡ false → All QuietLine lines → All QuietLine (between_sides left right high n lines)
between_quiet left right high n [] first last all = all
between_quiet left right high n (line ∷ lines) first last all =
    let before : Painted = side_at left high n left.size in
    let after : Painted = side_at right high n right.size in
    All-cons QuietLine (before ++ line ++ after) (between_sides left right high (n + 1) lines)
    (both_quiet (before ++ line) after (both_quiet before line (side_quiet left high n left.size first) (All-head QuietLine line lines all)) (side_quiet right high n right.size last))
    (between_quiet left right high (n + 1) lines first last (All-tail QuietLine line lines all))

margin_quiet : (margin : Margin) (columns : ℕ) (lines : List Painted) → All QuietLine lines → All QuietLine (in_margin margin columns lines)
margin_quiet margin columns lines all =
    let left : Side = left_side margin in
    let right : Side = right_side margin in
    let long : ℕ = left.size + columns + right.size in
    let above : List Painted = replicate (top_side margin).size (strip (top_side margin) long) in
    let between : List Painted = between_sides left right (length lines) 0 lines in
    All-append QuietLine (above ++ between) (replicate (bottom_side margin).size (strip (bottom_side margin) long))
    (All-append QuietLine above between (strips_quiet (top_side margin) long (top_side margin).size (fill_steers margin.size.top.fill))
    (between_quiet left right (length lines) 0 lines (fill_steers margin.size.left.fill) (fill_steers margin.size.right.fill) all))
    (strips_quiet (bottom_side margin) long (bottom_side margin).size (fill_steers margin.size.bottom.fill))

-- ---- a table

module _ (view : Look) (cells : Cells) (borders : (place : Place) → steers (character (view.shown place)) ≡ false) (each : (r c k : ℕ) → QuietLine (cells r c k)) where
  mark_quiet : (place : Place) → QuietLine (painted_mark (mark_at view place))
  mark_quiet place = paint_quiet (view.color place) _ (Quiet-one (character (view.shown place)) (borders place))

  marks_quiet : (places : List Place) → QuietLine (painted_marks (map (mark_at view) places))
  marks_quiet [] = Quiet-nil
  marks_quiet (place ∷ places) = both_quiet (painted_mark (mark_at view place)) (painted_marks (map (mark_at view) places)) (mark_quiet place) (marks_quiet places)

  if_quiet : (b : Bool) (marks : Painted) → QuietLine marks → QuietLine (if b then marks else [])
  if_quiet true marks quiet = quiet
  if_quiet false marks quiet = Quiet-nil

  All-if : (b : Bool) (marks : Painted) → QuietLine marks → All QuietLine (if b then marks ∷ [] else [])
  All-if true marks quiet = All-cons QuietLine marks [] quiet (All-nil QuietLine)
  All-if false marks quiet = All-nil QuietLine

  beside_quiet : (r k c : ℕ) → QuietLine (painted_side view r k c)
  beside_quiet r k c = if_quiet (view.vertical c) (painted_mark (mark_at view (Place.Vertical r c k))) (mark_quiet (Place.Vertical r c k))

  drawn_quiet : (r : ℕ) → All QuietLine (painted_if_drawn view r)
  drawn_quiet r =
      All-if (view.horizontal r) (painted_marks (marks_along view (LineOf.Horizontal r)))
      (marks_quiet (along view.horizontal view.vertical view.shape view.widths view.heights (LineOf.Horizontal r)))

  module _ (columns rows : Counts) where
    crossing_quiet : (r c : ℕ) → QuietLine (painted_crossing view r c)
    crossing_quiet r c = marks_quiet (crossing_at view.vertical (Place.Cross r) c)

    edge_quiet : (r c : ℕ) → QuietLine (painted_edge view r c)
    edge_quiet r c = marks_quiet (map (Place.Horizontal r c) (below (view.widths c)))

    room_quiet : (cell : Cell) (n : ℕ) → QuietLine (room_line view columns rows cells cell n)
    room_quiet cell n = each cell.0 cell.1 (n - lines_above view columns rows cell.0)

    spanned_quiet : (r k c : ℕ) → QuietLine (spanned_piece view columns rows cells r k c)
    spanned_quiet r k c =
        if_quiet ((host columns rows r c).1 == c) (painted_side view r k c ++ room_line view columns rows cells (host columns rows r c) (lines_above view columns rows r + k))
        (both_quiet (painted_side view r k c) (room_line view columns rows cells (host columns rows r c) (lines_above view columns rows r + k)) (beside_quiet r k c) (room_quiet (host columns rows r c) (lines_above view columns rows r + k)))

    crossed_quiet : (r c : ℕ) → QuietLine (crossed_piece view columns rows cells r c)
    crossed_quiet r c = by_case ((host columns rows r c).0 == r)
      where
        over : Painted
        over = painted_crossing view r c ++ room_line view columns rows cells (host columns rows r c) (lines_above view columns rows r - 1)

        by_case : (own : Bool) → QuietLine (if own then painted_crossing view r c ++ painted_edge view r c else
            if (host columns rows r c).1 == c then painted_crossing view r c ++ room_line view columns rows cells (host columns rows r c) (lines_above view columns rows r - 1) else [])
        by_case true = both_quiet (painted_crossing view r c) (painted_edge view r c) (crossing_quiet r c) (edge_quiet r c)
        by_case false =
            if_quiet ((host columns rows r c).1 == c) (painted_crossing view r c ++ room_line view columns rows cells (host columns rows r c) (lines_above view columns rows r - 1))
            (both_quiet (painted_crossing view r c) (room_line view columns rows cells (host columns rows r c) (lines_above view columns rows r - 1)) (crossing_quiet r c) (room_quiet (host columns rows r c) (lines_above view columns rows r - 1)))

    spanned_lines_quiet : All QuietLine (spanned_lines view columns rows cells)
    unfolding spanned_lines
    spanned_lines_quiet =
        All-append QuietLine (flat_map (λ r. spanned_if_drawn view columns rows cells r ++ spanned_row view columns rows cells r) (below view.shape.0)) (painted_if_drawn view view.shape.0)
        (All-flat (λ r. spanned_if_drawn view columns rows cells r ++ spanned_row view columns rows cells r) (below view.shape.0)
        (λ r. All-append QuietLine (spanned_if_drawn view columns rows cells r) (spanned_row view columns rows cells r)
        (All-if (view.horizontal r) (spanned_across view columns rows cells r)
        (both_quiet (flat_map (crossed_piece view columns rows cells r) (below view.shape.1)) (painted_crossing view r view.shape.1)
        (flat_quiet (crossed_piece view columns rows cells r) (below view.shape.1) (crossed_quiet r)) (crossing_quiet r view.shape.1)))
        (All-map QuietLine (spanned_between view columns rows cells r) (below (view.heights r)) (λ n d within.
        both_quiet (flat_map (spanned_piece view columns rows cells r (get_or (below (view.heights r)) n d)) (below view.shape.1)) (painted_side view r (get_or (below (view.heights r)) n d) view.shape.1)
        (flat_quiet (spanned_piece view columns rows cells r (get_or (below (view.heights r)) n d)) (below view.shape.1) (spanned_quiet r (get_or (below (view.heights r)) n d)))
        (beside_quiet r (get_or (below (view.heights r)) n d) view.shape.1)))))
        (drawn_quiet view.shape.0)

    spanned_table_quiet : (margin : Margin) → All QuietLine (spanned_table view columns rows cells margin)
    unfolding spanned_table
    spanned_table_quiet margin = by_shape (is_empty view.shape)
      where
        by_shape : (none : Bool) → All QuietLine (if none then [] else in_margin margin (length (marks_along view (LineOf.Horizontal 0))) (spanned_lines view columns rows cells))
        by_shape true = All-nil QuietLine
        by_shape false = margin_quiet margin (length (marks_along view (LineOf.Horizontal 0))) (spanned_lines view columns rows cells) spanned_lines_quiet

-- ---- its text

module _ (events : List ConfigEvent) (table : Table) (clean : CellsAreClean table) (writes : WritesClean events) where
  rooms_quiet : (wide high : ℕ → ℕ → ℕ) (r c k : ℕ) → QuietLine (painted_cell (cells_set events) (cell_colors events) (wide r c) (high r c) (slice_index_or (slice_index_or table r []) c []) r c k)
  unfolding placement_at
  rooms_quiet wide high r c k =
      let how : Placement = placement_at (cells_set events) r c in
      let text : List ℕ = slice_index_or (slice_index_or table r []) c [] in
      cell_quiet how (coloring_at (cells_set events) (cell_colors events) r c) (wide r c) (high r c) (lines_shown how text) k
      (padding_quiet (cells_set events) r c) (writes.filling (record { row = r; col = c })) (shown_clean how text (clean r c))

  set_quiet : (widths heights : ℕ → ℕ) → All QuietLine (painted_as_set (look events (length table, column_count table) widths heights) (settings_set events) (cell_colors events) table)
  set_quiet widths heights =
      let settings = settings_set events in
      let view : Look = look events (length table, column_count table) widths heights in
      let columns : Counts = columns_spanned settings in
      let rows : Counts = rows_spanned settings in
      spanned_table_quiet view (spanned_cells view columns rows settings.cells (cell_colors events) table) (borders_steer events (length table, column_count table) widths heights writes.borders)
      (rooms_quiet (room_wide view columns rows) (room_high view columns rows)) columns rows settings.margin

  painted_quiet : All QuietLine (painted events table)
  unfolding painted
  painted_quiet = by_case (leaves_sizes events)
    where
      by_case : (leaves : Bool) → All QuietLine (painted_as_set (if leaves then look_of events table else look_with_spans events table) (settings_set events) (cell_colors events) table)
      by_case true = set_quiet (slice_index (column_widths table)) (slice_index (row_heights table))
      by_case false = set_quiet (slice_index (widths_with_spans (settings_set events) events table)) (slice_index (heights_with_spans (settings_set events) events table))

  -- the characters of each painted line
  pub lines_are_clean : All (λ line. is_clean (plain line) ≡ true) (painted events table)
  lines_are_clean k d within = quiet_clean (plain (get_or (painted events table) k d)) (painted_quiet k d within)

  -- and of the whole text
  pub text_quiet : Quiet (text_of events table)
  unfolding text_of plain_text
  text_quiet = Quiet-joined (map plain (painted events table)) (All-map Quiet plain (painted events table) painted_quiet)

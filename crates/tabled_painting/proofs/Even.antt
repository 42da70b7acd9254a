-- The lines of a painted table are as wide as each other, and its vertical lines stand straight.
use Rattle.std.proofs.Common.{◌≡◌, ◌==◌, ℕ, ◌+◌, ◌<◌, ◌≤◌, Bool, true, false, ◌&&◌, ◌||◌, if◌then◌else◌, eqb, List, [], map, length, refl, sym, ap, subst, ◌∙◌, arith}
use Rattle.std.specs.List.{list_all, All, AllZip, join_with_byte}
use Rattle.std.proofs.lemmas.Bool.Decides.{nat_tests}
use Rattle.std.proofs.lemmas.List.{length-map}
use Rattle.std.proofs.lemmas.List.Elements.{All-weaker}
use Rattle.tabled_places.specs.declared.place.LineOf.{LineOf}
use Rattle.tabled_layout.specs.declared.margin.Margin.{Margin}
use Rattle.tabled_width.specs.Texts.{pieces, width_of_text}
use Rattle.tabled_printing.specs.Along.{is_empty, along}
use Rattle.tabled_printing.specs.Picture.{Look, character, marks_along}
use Rattle.tabled_printing.specs.Columns.{HasNarrowBorders, columns_before, table_width}
use Rattle.tabled_width.proofs.PieceTexts.{cut_lines}
use Rattle.tabled_printing.proofs.Straight.{Cut, across_long, lines_around, lines_tiles, lines_some, lines_cut}
use Rattle.tabled_width.proofs.Tiles.{Tile, Lacks, width_of_nothing, each_wide}
use Rattle.tabled_painting.specs.Painted.{Painted, plain}
use Rattle.tabled_painting.specs.Margin.{in_margin}
use Rattle.tabled_painting.specs.PaintedTable.{Cells, painted_lines, painted_table, with_margin, plain_text}
use Rattle.tabled_painting.specs.Widths.{text_width, StandsStraightIn}
use Rattle.tabled_painting.proofs.Plain.{plain_around}
use Rattle.tabled_painting.proofs.MarginWidths.{margin_tiles, margin_some, margin_straight}

-- lines that are as wide as the table, with a margin around them
module _ (view : Look) (margin : Margin) (lines : List Painted) (narrow : HasNarrowBorders view) (some : is_empty view.shape ≡ false) (each : All (Tile (table_width view)) (map plain lines))
    (there : 0 < length lines) where
  abbrev width : ℕ
  width = margin.size.left.size + table_width view + margin.size.right.size

  abbrev columns : ℕ
  columns = length (marks_along view (LineOf.Horizontal 0))

  abbrev whole : List (List ℕ)
  whole = map plain (in_margin margin columns lines)

  long : columns ≡ table_width view
  long = across_long view narrow some 0 (omega arith)

  tiles : All (Tile width) whole
  tiles = margin_tiles view margin lines columns long each

  text_is : plain_text (with_margin view margin lines) ≡ join_with_byte 10 whole
  unfolding plain_text
  text_is = ap (λ b. join_with_byte 10 (map plain (if b then [] else in_margin margin columns lines))) some

  -- the lines of the text are the painted ones
  text_cut : pieces (plain_text (with_margin view margin lines)) ≡ whole
  text_cut = ap pieces text_is ∙ cut_lines whole (margin_some view margin lines columns long there) (All-weaker (Tile width) Lacks (λ line tile. tile.lacks) whole tiles)

  even_between : list_all (λ line. width_of_text line == width) (pieces (plain_text (with_margin view margin lines))) ≡ true
  even_between = ap (list_all (λ line. width_of_text line == width)) text_cut ∙ each_wide width whole tiles

  straight_between : (c : ℕ) → AllZip (λ place line. Cut (columns_before view c) (character (view.shown place)) line)
      (along view.horizontal view.vertical view.shape view.widths view.heights (LineOf.Vertical c)) (map plain lines)
      → StandsStraightIn view margin c (pieces (plain_text (with_margin view margin lines)))
  straight_between c cut = subst (StandsStraightIn view margin c) (sym text_cut) (margin_straight view margin lines columns long c cut)

no_text : (view : Look) (margin : Margin) (lines : List Painted) → is_empty view.shape ≡ true → plain_text (with_margin view margin lines) ≡ []
unfolding plain_text
no_text view margin lines none = ap (λ b. join_with_byte 10 (map plain (if b then [] else in_margin margin (length (marks_along view (LineOf.Horizontal 0))) lines))) none

-- each line of the text is as wide as the others
pub even_with_margin : (view : Look) (margin : Margin) (lines : List Painted) → HasNarrowBorders view
    → (is_empty view.shape ≡ false → All (Tile (table_width view)) (map plain lines) × (0 < length lines))
    → list_all (λ line. width_of_text line == text_width view margin) (pieces (plain_text (with_margin view margin lines))) ≡ true
even_with_margin view margin lines narrow filled = by_shape (is_empty view.shape) refl
  where
    by_shape : (empty : Bool) → is_empty view.shape ≡ empty
        → list_all (λ line. width_of_text line == (if empty then 0 else margin.size.left.size + table_width view + margin.size.right.size)) (pieces (plain_text (with_margin view margin lines))) ≡ true
    by_shape true e = ap (λ text. list_all (λ line. width_of_text line == 0) (pieces text)) (no_text view margin lines e) ∙ ap (λ n. eqb n 0 && true) width_of_nothing
    by_shape false e = let parts = filled e in even_between view margin lines narrow e parts.0 parts.1

-- ---- a table whose cells stand alone

module _ (view : Look) (margin : Margin) (cells : Cells) (narrow : HasNarrowBorders view)
    (each : (r c k : ℕ) → r < view.shape.0 → c < view.shape.1 → k < view.heights r → Tile (view.widths c) (plain (cells r c k))) where
  abbrev piece : ℕ → ℕ → ℕ → List ℕ
  piece r c k = plain (cells r c k)

  lines_are : map plain (painted_lines view cells) ≡ lines_around view piece
  lines_are = plain_around view cells piece (λ r c k within inside above. refl)

  module _ (some : is_empty view.shape ≡ false) (high : 0 < view.heights 0) where
    rows_some : 0 < view.shape.0
    rows_some = by_shape view.shape.0 view.shape.1 some
      where
        by_shape : (rows cols : ℕ) → (eqb rows 0 || eqb cols 0) ≡ false → 0 < rows
        by_shape rows cols e = grind (arith, nat_tests)

    lines_even : All (Tile (table_width view)) (map plain (painted_lines view cells))
    lines_even = subst (All (Tile (table_width view))) (sym lines_are) (lines_tiles view narrow some piece each)

    lines_there : 0 < length (painted_lines view cells)
    lines_there =
        let counted = length-map (painted_lines view cells) plain in
        let same = ap length lines_are in
        let around = lines_some view narrow some piece each rows_some high in
        omega (arith, counted, same, around)

    pub table_straight : (c : ℕ) → c ≤ view.shape.1 → view.vertical c ≡ true → StandsStraightIn view margin c (pieces (plain_text (painted_table view margin cells)))
    unfolding painted_table
    table_straight c inside drawn =
        straight_between view margin (painted_lines view cells) narrow some lines_even lines_there c
        (subst (λ lines. AllZip (λ place line. Cut (columns_before view c) (character (view.shown place)) line) (along view.horizontal view.vertical view.shape view.widths view.heights (LineOf.Vertical c)) lines) (sym lines_are) (lines_cut view narrow some piece each c inside drawn))

  -- each line is as wide as the others
  pub table_even : (is_empty view.shape ≡ false → 0 < view.heights 0)
      → list_all (λ line. width_of_text line == text_width view margin) (pieces (plain_text (painted_table view margin cells))) ≡ true
  unfolding painted_table
  table_even high = even_with_margin view margin (painted_lines view cells) narrow (λ some. (lines_even some (high some), lines_there some (high some)))

-- The characters of a painted table are its plain text.
use Rattle.std.proofs.Common.{◌≡◌, ℕ, ◌+◌, ◌-◌, ◌<◌, Bool, true, false, nat_lt, if◌then◌else◌, None, List, [], ◌∷◌, ◌++◌, map, length, get_or, drop, replicate, refl, sym, ap, ◌∙◌, encode_utf8}
use Rattle.std.specs.List.{flat_map}
use Rattle.std.proofs.lemmas.List.{append-nil, map-append, length-map}
use Rattle.std.proofs.lemmas.Simd.{map-map}
use Rattle.tabled_object.specs.Entities.{below}
use Rattle.tabled_places.specs.declared.place.Place.{Place}
use Rattle.tabled_places.specs.declared.place.LineOf.{LineOf}
use Rattle.tabled_layout.specs.declared.margin.Margin.{Margin}
use Rattle.tabled_printing.specs.Along.{is_empty}
use Rattle.tabled_width.specs.Texts.{Table, pieces}
use Rattle.tabled_printing.specs.Picture.{Look, Shown, character, text_shown, text_marked, mark_at, marks_along, side_shown, line_of_pieces, line_if_drawn, text_lines}
use Rattle.tabled_cells.specs.declared.placement.Placement.{Placement}
use Rattle.tabled_cells.specs.Placed.{times, lines_above, line_parts, aligned_width}
use Rattle.tabled_cells.proofs.Fits.{empty_line, placed_line, placed_at}
use Rattle.tabled_rooms.proofs.SizeLemmas.{flat_map_same, map_same}
use Rattle.tabled_painting.specs.Painted.{Painted, paint, plain, colored_if}
use Rattle.tabled_painting.specs.InColor.{in_color, suffix_of}
use Rattle.tabled_painting.specs.Margin.{Side, side_at, between_sides, strip, in_margin, left_side, right_side, top_side, bottom_side}
use Rattle.tabled_painting.specs.CellLines.{Coloring, painted_line, cell_line}
use Rattle.tabled_painting.specs.PaintedTable.{Cells, painted_mark, painted_marks, painted_side, painted_between, painted_if_drawn, painted_row, painted_lines}
use Rattle.tabled_painting.proofs.PainterLemmas.{plain_paint, goes_on, stays}
use Rattle.tabled_painting.proofs.MarginLemmas.{between_none}
use Rattle.tabled_printing.proofs.Straight.{lines_around}

pub plain_both : (xs ys : Painted) → plain (xs ++ ys) ≡ plain xs ++ plain ys
plain_both xs ys = map-append (λ painted. painted.0) xs ys

pub plain_flat : {X : Type 0} (f : X → Painted) (xs : List X) → plain (flat_map f xs) ≡ flat_map (λ x. plain (f x)) xs
plain_flat f [] = refl
plain_flat f (x ∷ xs) = plain_both (f x) (flat_map f xs) ∙ ap (λ rest. plain (f x) ++ rest) (plain_flat f xs)

pub map_flat : {X A B : Type 0} (g : A → B) (f : X → List A) (xs : List X) → map g (flat_map f xs) ≡ flat_map (λ x. map g (f x)) xs
map_flat g f [] = refl
map_flat g f (x ∷ xs) = map-append g (f x) (flat_map f xs) ∙ ap (λ rest. map g (f x) ++ rest) (map_flat g f xs)

-- ---- lines

pub plain_marks : (marks : List Shown) → plain (painted_marks marks) ≡ text_marked marks
plain_marks [] = refl
plain_marks (mark ∷ marks) =
    plain_both (painted_mark mark) (painted_marks marks)
    ∙ (λ i. plain_paint mark.1 (text_shown (mark.0 ∷ [])) i ++ plain_marks marks i)
    ∙ ap (λ bs. bs ++ text_marked marks) (append-nil (encode_utf8 (character mark.0)))

plain_if : (b : Bool) (mark : Shown) → plain (if b then painted_mark mark else []) ≡ text_shown (if b then mark.0 ∷ [] else [])
plain_if true mark = plain_paint mark.1 (text_shown (mark.0 ∷ []))
plain_if false mark = refl

module _ (view : Look) where
  pub plain_side : (r k c : ℕ) → plain (painted_side view r k c) ≡ text_shown (side_shown view r k c)
  plain_side r k c = plain_if (view.vertical c) (mark_at view (Place.Vertical r c k))

  plain_between : (r k : ℕ) (cell : ℕ → Painted) (piece : ℕ → List ℕ) → ((c : ℕ) → c < view.shape.1 → plain (cell c) ≡ piece c) → plain (painted_between view r k cell) ≡ line_of_pieces view r k piece
  plain_between r k cell piece same =
      plain_both (flat_map (λ c. painted_side view r k c ++ cell c) (below view.shape.1)) (painted_side view r k view.shape.1)
      ∙ (λ i. plain_flat (λ c. painted_side view r k c ++ cell c) (below view.shape.1) i ++ plain_side r k view.shape.1 i)
      ∙ ap (λ bs. bs ++ text_shown (side_shown view r k view.shape.1))
      (flat_map_same (λ c. plain (painted_side view r k c ++ cell c)) (λ c. text_shown (side_shown view r k c) ++ piece c) view.shape.1
      (λ c within. plain_both (painted_side view r k c) (cell c) ∙ (λ i. plain_side r k c i ++ same c within i)))

  plain_line : (b : Bool) (line : Painted) (text : List ℕ) → plain line ≡ text → map plain (if b then line ∷ [] else []) ≡ (if b then text ∷ [] else [])
  plain_line true line text is = ap (λ l. l ∷ []) is
  plain_line false line text is = refl

  pub plain_if_drawn : (r : ℕ) → map plain (painted_if_drawn view r) ≡ line_if_drawn view r
  plain_if_drawn r = plain_line (view.horizontal r) _ _ (plain_marks (marks_along view (LineOf.Horizontal r)))

  -- around what stands in the cells
  plain_row : (cells : Cells) (r : ℕ) (piece : ℕ → ℕ → List ℕ) → ((c k : ℕ) → c < view.shape.1 → k < view.heights r → plain (cells r c k) ≡ piece c k)
      → map plain (painted_row view cells r) ≡ map (λ k. line_of_pieces view r k (λ c. piece c k)) (below (view.heights r))
  plain_row cells r piece shows =
      map-map plain (λ k. painted_between view r k (λ c. cells r c k)) (below (view.heights r))
      ∙ map_same (λ k. plain (painted_between view r k (λ c. cells r c k))) (λ k. line_of_pieces view r k (λ c. piece c k)) (view.heights r)
      (λ k within. plain_between r k (λ c. cells r c k) (λ c. piece c k) (λ c inside. shows c k inside within))

  pub plain_around : (cells : Cells) (piece : ℕ → ℕ → ℕ → List ℕ) → ((r c k : ℕ) → r < view.shape.0 → c < view.shape.1 → k < view.heights r → plain (cells r c k) ≡ piece r c k)
      → map plain (painted_lines view cells) ≡ lines_around view piece
  unfolding painted_lines
  plain_around cells piece shows =
      let rows : ℕ → List Painted = λ r. painted_if_drawn view r ++ painted_row view cells r in
      let texts : ℕ → List (List ℕ) = λ r. map (λ k. line_of_pieces view r k (λ c. piece r c k)) (below (view.heights r)) in
      map-append plain (flat_map rows (below view.shape.0)) (painted_if_drawn view view.shape.0)
      ∙ (λ i. map_flat plain rows (below view.shape.0) i ++ plain_if_drawn view.shape.0 i)
      ∙ ap (λ lines. lines ++ line_if_drawn view view.shape.0)
      (flat_map_same (λ r. map plain (rows r)) (λ r. line_if_drawn view r ++ texts r) view.shape.0
      (λ r within. map-append plain (painted_if_drawn view r) (painted_row view cells r) ∙ (λ i. plain_if_drawn r i ++ plain_row cells r (piece r) (λ c k inside above. shows r c k within inside above) i)))

  -- what the cells of a row show is what their texts have at each line
  abbrev pub ShowsTexts : Cells → ℕ → List (List ℕ) → Type 0
  ShowsTexts cells r texts = (k c : ℕ) → k < view.heights r → c < view.shape.1 → plain (cells r c k) ≡ get_or (pieces (get_or texts c [])) k []

  pub plain_lines : (cells : Cells) (table : Table) → is_empty view.shape ≡ false → ((r : ℕ) → r < view.shape.0 → ShowsTexts cells r (get_or table r []))
      → map plain (painted_lines view cells) ≡ text_lines view table
  plain_lines cells table any shows =
      let piece : ℕ → ℕ → ℕ → List ℕ = λ r c k. get_or (pieces (get_or (get_or table r []) c [])) k [] in
      plain_around cells piece (λ r c k within inside above. shows r within k c above inside)
      ∙ ap (λ b. if b then [] else lines_around view piece) (sym any)

-- ---- a cell

plain_text_line : (how : Placement) (colors : Coloring) (width aligned : ℕ) (line : List ℕ) → plain (painted_line how colors width aligned line) ≡ placed_line how width aligned line
unfolding painted_line placed_line
plain_text_line how colors width aligned line =
    let parts = line_parts how width aligned line in
    let first : List ℕ = times how.padding.left.size how.padding.left.fill in
    let last : List ℕ = times how.padding.right.size how.padding.right.fill in
    let before : Painted = paint colors.padding.left first ++ paint colors.fill (times parts.before parts.fill) in
    let text : Painted = before ++ paint colors.text line in
    let after : Painted = text ++ paint colors.fill (times parts.after parts.fill) in
    plain_both after (paint colors.padding.right last)
    ∙ (λ i. (plain_both text (paint colors.fill (times parts.after parts.fill))
    ∙ (λ j. (plain_both before (paint colors.text line)
    ∙ (λ k. (plain_both (paint colors.padding.left first) (paint colors.fill (times parts.before parts.fill))
    ∙ (λ m. plain_paint colors.padding.left first m ++ plain_paint colors.fill (times parts.before parts.fill) m)) k ++ plain_paint colors.text line k)) j
    ++ plain_paint colors.fill (times parts.after parts.fill) j)) i ++ plain_paint colors.padding.right last i)

-- the characters of a line of a cell are its text as it is placed, whatever its colors
pub plain_cell : (how : Placement) (colors : Coloring) (width height : ℕ) (lines : List (List ℕ)) (n : ℕ) → plain (cell_line how colors width height lines n) ≡ placed_at how width height lines n
unfolding cell_line
plain_cell how colors width height lines n = by_place (nat_lt n above) (nat_lt (n - above) (length lines))
  where
    above : ℕ
    above = lines_above how height (length lines)

    line : List ℕ
    line = get_or lines (n - above) []

    by_place : (first second : Bool)
        → plain (if first then paint colors.padding.top (times width how.padding.top.fill) else if second then painted_line how colors width (aligned_width how lines line) line else paint colors.padding.bottom (times width how.padding.bottom.fill))
        ≡ (if first then empty_line how.padding.top width else if second then placed_line how width (aligned_width how lines line) line else empty_line how.padding.bottom width)
    by_place true second = plain_paint colors.padding.top (times width how.padding.top.fill)
    by_place false true = plain_text_line how colors width (aligned_width how lines line) line
    by_place false false = plain_paint colors.padding.bottom (times width how.padding.bottom.fill)

-- ---- a margin around lines

pub plain_three : (xs ys zs : Painted) → plain (xs ++ ys ++ zs) ≡ plain xs ++ plain ys ++ plain zs
plain_three xs ys zs = plain_both (xs ++ ys) zs ∙ ap (λ bs. bs ++ plain zs) (plain_both xs ys)

between_same : (left right : Side) (high n : ℕ) (lines others : List Painted) → map plain lines ≡ map plain others → map plain (between_sides left right high n lines) ≡ map plain (between_sides left right high n others)
between_same left right high n [] [] same = refl
between_same left right high n [] (other ∷ others) same = absurd cc
between_same left right high n (line ∷ lines) [] same = absurd cc
between_same left right high n (line ∷ lines) (other ∷ others) same =
    let before : Painted = side_at left high n left.size in
    let after : Painted = side_at right high n right.size in
    let first : plain line ≡ plain other = ap (λ texts. get_or texts 0 []) same in
    let more : map plain lines ≡ map plain others = ap (drop 1) same in
    λ i. (plain_three before line after ∙ ap (λ bs. plain before ++ bs ++ plain after) first ∙ sym (plain_three before other after)) i ∷ between_same left right high (n + 1) lines others more i

-- the characters of a margin around lines are those of one around other lines with the same characters
pub margin_same : (margin : Margin) (columns other : ℕ) (lines others : List Painted) → columns ≡ other → map plain lines ≡ map plain others → map plain (in_margin margin columns lines) ≡ map plain (in_margin margin other others)
margin_same margin columns other lines others long same =
    let left = left_side margin in
    let right = right_side margin in
    let top : ℕ → List Painted = λ n. replicate (top_side margin).size (strip (top_side margin) (left.size + n + right.size)) in
    let bottom : ℕ → List Painted = λ n. replicate (bottom_side margin).size (strip (bottom_side margin) (left.size + n + right.size)) in
    let counted : length lines ≡ length others = sym (length-map lines plain) ∙ ap length same ∙ length-map others plain in
    mapped_three (top columns) (between_sides left right (length lines) 0 lines) (bottom columns)
    ∙ (λ i. map plain (top (long i)) ++ (ap (λ high. map plain (between_sides left right high 0 lines)) counted ∙ between_same left right (length others) 0 lines others same) i ++ map plain (bottom (long i)))
    ∙ sym (mapped_three (top other) (between_sides left right (length others) 0 others) (bottom other))
  where
    mapped_three : (xs ys zs : List Painted) → map plain (xs ++ ys ++ zs) ≡ map plain xs ++ map plain ys ++ map plain zs
    mapped_three xs ys zs = map-append plain (xs ++ ys) zs ∙ ap (λ ls. ls ++ map plain zs) (map-append plain xs ys)

-- where no side has room, lines are as they are
pub without_room : (margin : Margin) (columns : ℕ) (lines : List Painted) → margin.size.left.size ≡ 0 → margin.size.right.size ≡ 0 → margin.size.top.size ≡ 0 → margin.size.bottom.size ≡ 0 → in_margin margin columns lines ≡ lines
without_room margin columns lines no_left no_right no_top no_bottom =
    let left = left_side margin in
    let right = right_side margin in
    let long : ℕ = left.size + columns + right.size in
    (λ i. replicate (no_top i) (strip (top_side margin) long) ++ between_none left right (length lines) 0 lines no_left no_right i ++ replicate (no_bottom i) (strip (bottom_side margin) long))
    ∙ append-nil lines

-- ---- as a text

pub uncolored_line : (text : List ℕ) → in_color (paint None text) ≡ text
uncolored_line text = (λ i. goes_on None text i ++ suffix_of (stays None text i)) ∙ append-nil text

pub text_without_colors : (lines : List Painted) → map (λ line. in_color (colored_if false line)) lines ≡ map plain lines
text_without_colors [] = refl
text_without_colors (line ∷ lines) = (λ i. uncolored_line (plain line) i ∷ text_without_colors lines i)

pub text_with_colors : (lines : List Painted) → map (λ line. in_color (colored_if true line)) lines ≡ map in_color lines
text_with_colors [] = refl
text_with_colors (line ∷ lines) = ap (λ rest. in_color line ∷ rest) (text_with_colors lines)

-- How large a table is, and what its margin is where it has none.
use Rattle.std.proofs.Common.{◌≡◌, ℕ, ◌+◌, min, Bool, true, false, ◌||◌, ◌==◌, if◌then◌else◌, List, [], ◌∷◌, ◌++◌, map, length, replicate, refl, sym, ap, ◌∙◌, Result, Ok, Err, IfOk}
use Rattle.std.specs.List.{flat_map, join_with_byte}
use Rattle.std.proofs.lemmas.List.{append-nil, length-append}
use Rattle.std.proofs.lemmas.List.FromFn.{length-map-range_with_len}
use Rattle.tabled_object.specs.Entities.{below}
use Rattle.tabled_places.specs.declared.place.LineOf.{LineOf}
use Rattle.tabled_printing.specs.Along.{is_empty}
use Rattle.tabled_printing.specs.LinePieces.{crossing_of, edge_of, crossing_places, edge_places, piece_places, places_before, all_places}
use Rattle.tabled_printing.specs.Picture.{Look, marks_along}
use Rattle.tabled_printing.proofs.LineLemmas.{marks_count, vertical_there}
use Rattle.tabled_layout.specs.declared.margin.Margin.{Margin}
use Rattle.tabled_painting.specs.declared.margin_sides.MarginSides.{MarginSides}
use Rattle.tabled_painting.specs.Painted.{Painted, colored_if}
use Rattle.tabled_painting.specs.InColor.{in_color}
use Rattle.tabled_painting.specs.Pages.{IsMarginOf, Strips, counted_sides, most, text_of_lines}
use Rattle.tabled_painting.specs.Margin.{Side, side_of, side_at, is_left_out, between_sides, strip, in_margin}
use Rattle.tabled_rooms.specs.Hosts.{Counts}
use Rattle.tabled_painting.specs.PaintedTable.{Cells, painted_marks, painted_if_drawn, with_margin}
use Rattle.tabled_painting.specs.PaintedSpans.{spanned_across, spanned_between, spanned_if_drawn, spanned_lines, spanned_row}

-- what holds of a value that is returned, by what else holds of it
pub on_value : {T E : Type 0} (r : Result T E) (P Q : T → Type 0) → IfOk r P → ((x : T) → P x → Q x) → IfOk r Q
on_value (Ok x) P Q p so = so x p
on_value (Err e) P Q p so = tt

-- ---- a side without room

either : {X : Type 0} (b : Bool) (x : X) → (if b then x else x) ≡ x
either true x = refl
either false x = refl

pub nothing_at : (side : Side) (extent n : ℕ) → side_at side extent n 0 ≡ []
unfolding side_at
nothing_at side extent n = either (is_left_out side.offset extent n) []

pub none_at : (side : Side) (extent n : ℕ) → side.size ≡ 0 → side_at side extent n side.size ≡ []
none_at side extent n none = ap (side_at side extent n) none ∙ nothing_at side extent n

-- between sides without room lines are as they are
pub between_none : (left right : Side) (high n : ℕ) (lines : List Painted) → left.size ≡ 0 → right.size ≡ 0 → between_sides left right high n lines ≡ lines
between_none left right high n [] no_left no_right = refl
between_none left right high n (line ∷ lines) no_left no_right =
    (λ i. (none_at left high n no_left i ++ line ++ none_at right high n no_right i) ∷ between_none left right high (n + 1) lines no_left no_right i)
    ∙ ap (λ l. l ∷ lines) (append-nil line)

pub counted_none : (left right : Side) (high n : ℕ) (lines : List Painted) → left.size ≡ 0 → right.size ≡ 0 → counted_sides left right high n lines ≡ lines
counted_none left right high n [] no_left no_right = refl
counted_none left right high n (line ∷ lines) no_left no_right =
    (λ i. (none_at left high n no_left i ++ line ++ none_at right high n no_right i) ∷ counted_none left right high (min (n + 1) most) lines no_left no_right i)
    ∙ ap (λ l. l ∷ lines) (append-nil line)

-- ---- how many lines a table has

pub same_lengths : {A B : Type 0} (f : ℕ → List A) (g : ℕ → List B) (ns : List ℕ) → ((n : ℕ) → length (f n) ≡ length (g n)) → length (flat_map f ns) ≡ length (flat_map g ns)
same_lengths f g [] same = refl
same_lengths f g (n ∷ ns) same = length-append (f n) (flat_map f ns) ∙ (λ i. same n i + same_lengths f g ns same i) ∙ sym (length-append (g n) (flat_map g ns))

pub one_or_none : {A B : Type 0} (b : Bool) (x : A) (y : B) → length (if b then x ∷ [] else []) ≡ length (if b then y ∷ [] else [])
one_or_none true x y = refl
one_or_none false x y = refl

module _ (view : Look) (columns rows : Counts) (cells : Cells) where
  abbrev block : ℕ → List Painted
  block r = spanned_if_drawn view columns rows cells r ++ spanned_row view columns rows cells r

  block_long : (r : ℕ) → length (block r) ≡ length (piece_places view (LineOf.Vertical 0) r)
  block_long r =
      length-append (spanned_if_drawn view columns rows cells r) (spanned_row view columns rows cells r)
      ∙ (λ i. one_or_none (view.horizontal r) (spanned_across view columns rows cells r) (crossing_of (LineOf.Vertical 0) r) i
      + length-map-range_with_len (spanned_between view columns rows cells r) 0 (view.heights r) i)
      ∙ ap (λ k. length (crossing_places view (LineOf.Vertical 0) r) + k) (sym (length-map-range_with_len (edge_of (LineOf.Vertical 0) r) 0 (view.heights r)))
      ∙ sym (length-append (crossing_places view (LineOf.Vertical 0) r) (edge_places view (LineOf.Vertical 0) r))

  pub lines_count : is_empty view.shape ≡ false → length (spanned_lines view columns rows cells) ≡ length (marks_along view (LineOf.Vertical 0))
  unfolding spanned_lines all_places places_before
  lines_count any =
      length-append (flat_map block (below view.shape.0)) (painted_if_drawn view view.shape.0)
      ∙ (λ i. same_lengths block (piece_places view (LineOf.Vertical 0)) (below view.shape.0) block_long i
      + one_or_none (view.horizontal view.shape.0) (painted_marks (marks_along view (LineOf.Horizontal view.shape.0))) (crossing_of (LineOf.Vertical 0) view.shape.0) i)
      ∙ sym (length-append (flat_map (piece_places view (LineOf.Vertical 0)) (below view.shape.0)) (crossing_places view (LineOf.Vertical 0) view.shape.0))
      ∙ sym (marks_count view (LineOf.Vertical 0) (vertical_there view.shape any))

-- ---- a table in its margin

module _ (view : Look) (margin : MarginSides) (kept : Margin) (lines : List Painted) (high long : ℕ) (is : IsMarginOf kept margin) where
  parts : Side → Side → Side → Side → List Painted
  parts l r t b =
      replicate t.size (strip t (l.size + length (marks_along view (LineOf.Horizontal 0)) + r.size)) ++ between_sides l r (length lines) 0 lines
      ++ replicate b.size (strip b (l.size + length (marks_along view (LineOf.Horizontal 0)) + r.size))

  pub in_its_margin : is_empty view.shape ≡ false → Strips view margin long
      → counted_sides (side_of margin.left) (side_of margin.right) high 0 lines ≡ between_sides (side_of margin.left) (side_of margin.right) (length lines) 0 lines
      → replicate margin.top.size (strip (side_of margin.top) long) ++ counted_sides (side_of margin.left) (side_of margin.right) high 0 lines
      ++ replicate margin.bottom.size (strip (side_of margin.bottom) long) ≡ with_margin view kept lines
  unfolding parts
  in_its_margin any strips highs =
      (λ i. strips.top i ++ highs i ++ strips.bottom i)
      ∙ (λ i. parts (is.left i) (is.right i) (is.top i) (is.bottom i))
      ∙ sym (ap (λ b. if b then [] else in_margin kept (length (marks_along view (LineOf.Horizontal 0))) lines) any)

-- ---- the text of painted lines

pub no_places : (view : Look) (margin : Margin) (lines : List Painted) (with_colors : Bool) → is_empty view.shape ≡ true → text_of_lines with_colors (with_margin view margin lines) ≡ []
unfolding text_of_lines
no_places view margin lines with_colors empty =
    ap (λ b. join_with_byte 10 (map (λ line. in_color (colored_if with_colors line)) (if b then [] else in_margin margin (length (marks_along view (LineOf.Horizontal 0))) lines))) empty

pub no_rows : (rows cols : ℕ) → rows ≡ 0 → is_empty (rows, cols) ≡ true
no_rows rows cols none = ap (λ n. (n == 0) || (cols == 0)) none

pub no_columns : (rows cols : ℕ) → cols ≡ 0 → is_empty (rows, cols) ≡ true
no_columns rows cols none = ap (λ n. (rows == 0) || (n == 0)) none ∙ or_true (rows == 0)
  where
    or_true : (b : Bool) → b || true ≡ true
    or_true true = refl
    or_true false = refl

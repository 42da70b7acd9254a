-- The characters of a table do not depend on colors.
use Rattle.std.proofs.Common.{◌≡◌, ℕ, ◌+◌, ◌-◌, ◌==◌, Bool, true, false, if◌then◌else◌, List, [], ◌∷◌, ◌++◌, map, length, refl, sym, ap, ◌∙◌}
use Rattle.std.specs.List.{flat_map, join_with_byte}
use Rattle.std.proofs.lemmas.List.{map-append}
use Rattle.std.proofs.lemmas.Simd.{map-map}
use Rattle.tabled_object.specs.Entities.{below}
use Rattle.tabled_places.specs.declared.place.Place.{Place}
use Rattle.tabled_places.specs.declared.place.LineOf.{LineOf}
use Rattle.tabled_layout.specs.declared.margin.Margin.{Margin}
use Rattle.tabled_printing.specs.Along.{is_empty, along, crossing_at}
use Rattle.tabled_printing.specs.Picture.{Look, text_shown, mark_at, marks_along}
use Rattle.tabled_printing.specs.Viewed as looks
use Rattle.tabled_printing.proofs.ViewedLemmas.{kept_count}
use Rattle.tabled_rooms.specs.Hosts.{Cell, Counts, host}
use Rattle.tabled_painting.specs.Painted.{Painted, plain}
use Rattle.tabled_painting.specs.Margin.{in_margin}
use Rattle.tabled_painting.specs.Pages.{text_of_lines}
use Rattle.tabled_painting.specs.PaintedTable.{Cells, painted_mark, painted_marks, painted_side, painted_if_drawn}
use Rattle.tabled_painting.specs.PaintedSpans.{painted_crossing, painted_edge, lines_above, room_line, spanned_piece, spanned_between, crossed_piece, spanned_across, spanned_if_drawn, spanned_row, spanned_lines, spanned_table}
use Rattle.tabled_painting.proofs.PainterLemmas.{plain_paint}
use Rattle.tabled_painting.proofs.Plain.{map_flat, plain_both, plain_flat, plain_side, margin_same, text_without_colors}
use Rattle.tabled_painting.proofs.FrameLemmas.{by_test}

-- ---- lists of lines with the same characters

if_same : (b : Bool) (x y : Painted) → plain x ≡ plain y → map plain (if b then x ∷ [] else []) ≡ map plain (if b then y ∷ [] else [])
if_same b x y is = by_test (λ p q. map plain p ≡ map plain q) b (x ∷ []) [] (y ∷ []) [] (λ e. ap (λ line. line ∷ []) is) (λ e. refl)

maps_same : (f g : ℕ → Painted) (ks : List ℕ) → ((k : ℕ) → plain (f k) ≡ plain (g k)) → map plain (map f ks) ≡ map plain (map g ks)
maps_same f g ks same = map-map plain f ks ∙ (λ i. map (λ k. same k i) ks) ∙ sym (map-map plain g ks)

flats_same : (f g : ℕ → List Painted) (ns : List ℕ) → ((n : ℕ) → map plain (f n) ≡ map plain (g n)) → map plain (flat_map f ns) ≡ map plain (flat_map g ns)
flats_same f g ns same = map_flat plain f ns ∙ (λ i. flat_map (λ n. same n i) ns) ∙ sym (map_flat plain g ns)

flat_same : (f g : ℕ → Painted) (ns : List ℕ) → ((n : ℕ) → plain (f n) ≡ plain (g n)) → plain (flat_map f ns) ≡ plain (flat_map g ns)
flat_same f g ns same = plain_flat f ns ∙ (λ i. flat_map (λ n. same n i) ns) ∙ sym (plain_flat g ns)

both_same : (xs ys others more : Painted) → plain xs ≡ plain others → plain ys ≡ plain more → plain (xs ++ ys) ≡ plain (others ++ more)
both_same xs ys others more first second = plain_both xs ys ∙ (λ i. first i ++ second i) ∙ sym (plain_both others more)

-- ---- the same table, with colors or without them

module _ (wanted : Bool) (view : Look) (columns rows : Counts) (cells others : Cells) (same : (r c k : ℕ) → plain (cells r c k) ≡ plain (others r c k)) where
  abbrev kept : Look
  kept = looks.with_colors_if wanted view

  marks_same : (places : List Place) → plain (painted_marks (map (mark_at kept) places)) ≡ plain (painted_marks (map (mark_at view) places))
  marks_same [] = refl
  marks_same (place ∷ places) =
      let bytes : List ℕ = text_shown (view.shown place ∷ []) in
      both_same (painted_mark (mark_at kept place)) (painted_marks (map (mark_at kept) places)) (painted_mark (mark_at view place)) (painted_marks (map (mark_at view) places))
      (plain_paint (kept.color place) bytes ∙ sym (plain_paint (view.color place) bytes)) (marks_same places)

  side_same : (r k c : ℕ) → plain (painted_side kept r k c) ≡ plain (painted_side view r k c)
  side_same r k c = plain_side kept r k c ∙ sym (plain_side view r k c)

  crossing_same : (r c : ℕ) → plain (painted_crossing kept r c) ≡ plain (painted_crossing view r c)
  crossing_same r c = marks_same (crossing_at view.vertical (Place.Cross r) c)

  edge_same : (r c : ℕ) → plain (painted_edge kept r c) ≡ plain (painted_edge view r c)
  edge_same r c = marks_same (map (Place.Horizontal r c) (below (view.widths c)))

  room_same : (cell : Cell) (n : ℕ) → plain (room_line kept columns rows cells cell n) ≡ plain (room_line view columns rows others cell n)
  room_same cell n = same cell.0 cell.1 (n - lines_above view columns rows cell.0)

  piece_same : (r k c : ℕ) → plain (spanned_piece kept columns rows cells r k c) ≡ plain (spanned_piece view columns rows others r k c)
  piece_same r k c =
      by_test (λ p q. plain p ≡ plain q) ((host columns rows r c).1 == c) _ [] _ []
      (λ e. both_same (painted_side kept r k c) _ (painted_side view r k c) _ (side_same r k c) (room_same (host columns rows r c) (lines_above view columns rows r + k))) (λ e. refl)

  between_same : (r k : ℕ) → plain (spanned_between kept columns rows cells r k) ≡ plain (spanned_between view columns rows others r k)
  between_same r k =
      both_same (flat_map (spanned_piece kept columns rows cells r k) (below view.shape.1)) (painted_side kept r k view.shape.1)
      (flat_map (spanned_piece view columns rows others r k) (below view.shape.1)) (painted_side view r k view.shape.1)
      (flat_same (spanned_piece kept columns rows cells r k) (spanned_piece view columns rows others r k) (below view.shape.1) (piece_same r k)) (side_same r k view.shape.1)

  crossed_same : (r c : ℕ) → plain (crossed_piece kept columns rows cells r c) ≡ plain (crossed_piece view columns rows others r c)
  crossed_same r c =
      by_test (λ p q. plain p ≡ plain q) ((host columns rows r c).0 == r) _ _ _ _
      (λ e. both_same (painted_crossing kept r c) (painted_edge kept r c) (painted_crossing view r c) (painted_edge view r c) (crossing_same r c) (edge_same r c))
      (λ e. by_test (λ p q. plain p ≡ plain q) ((host columns rows r c).1 == c) _ [] _ []
      (λ f. both_same (painted_crossing kept r c) _ (painted_crossing view r c) _ (crossing_same r c) (room_same (host columns rows r c) (lines_above view columns rows r - 1))) (λ f. refl))

  across_same : (r : ℕ) → plain (spanned_across kept columns rows cells r) ≡ plain (spanned_across view columns rows others r)
  across_same r =
      both_same (flat_map (crossed_piece kept columns rows cells r) (below view.shape.1)) (painted_crossing kept r view.shape.1)
      (flat_map (crossed_piece view columns rows others r) (below view.shape.1)) (painted_crossing view r view.shape.1)
      (flat_same (crossed_piece kept columns rows cells r) (crossed_piece view columns rows others r) (below view.shape.1) (crossed_same r)) (crossing_same r view.shape.1)

  last_same : map plain (painted_if_drawn kept view.shape.0) ≡ map plain (painted_if_drawn view view.shape.0)
  last_same =
      if_same (view.horizontal view.shape.0) (painted_marks (marks_along kept (LineOf.Horizontal view.shape.0))) (painted_marks (marks_along view (LineOf.Horizontal view.shape.0)))
      (marks_same (along view.horizontal view.vertical view.shape view.widths view.heights (LineOf.Horizontal view.shape.0)))

  spanned_same : map plain (spanned_lines kept columns rows cells) ≡ map plain (spanned_lines view columns rows others)
  unfolding spanned_lines
  spanned_same =
      let all : Look → Cells → ℕ → List Painted = λ of of_cells r. spanned_if_drawn of columns rows of_cells r ++ spanned_row of columns rows of_cells r in
      map-append plain (flat_map (all kept cells) (below view.shape.0)) (painted_if_drawn kept view.shape.0)
      ∙ (λ i. flats_same (all kept cells) (all view others) (below view.shape.0)
      (λ r. map-append plain (spanned_if_drawn kept columns rows cells r) (spanned_row kept columns rows cells r)
      ∙ (λ j. if_same (view.horizontal r) (spanned_across kept columns rows cells r) (spanned_across view columns rows others r) (across_same r) j
      ++ maps_same (spanned_between kept columns rows cells r) (spanned_between view columns rows others r) (below (view.heights r)) (between_same r) j)
      ∙ sym (map-append plain (spanned_if_drawn view columns rows others r) (spanned_row view columns rows others r))) i ++ last_same i)
      ∙ sym (map-append plain (flat_map (all view others) (below view.shape.0)) (painted_if_drawn view view.shape.0))

  pub spanned_table_same : (margin : Margin) → map plain (spanned_table kept columns rows cells margin) ≡ map plain (spanned_table view columns rows others margin)
  unfolding spanned_table
  spanned_table_same margin = by_case (is_empty view.shape)
    where
      by_case : (none : Bool) → map plain (if none then [] else in_margin margin (length (marks_along kept (LineOf.Horizontal 0))) (spanned_lines kept columns rows cells))
          ≡ map plain (if none then [] else in_margin margin (length (marks_along view (LineOf.Horizontal 0))) (spanned_lines view columns rows others))
      by_case true = refl
      by_case false =
          margin_same margin (length (marks_along kept (LineOf.Horizontal 0))) (length (marks_along view (LineOf.Horizontal 0))) (spanned_lines kept columns rows cells) (spanned_lines view columns rows others)
          (kept_count wanted view (LineOf.Horizontal 0)) spanned_same

-- without its colors a table is written as it is without them
pub spanned_written_if : (with_colors : Bool) (view : Look) (columns rows : Counts) (cells : Cells) (margin : Margin)
    → text_of_lines with_colors (spanned_table (looks.with_colors_if with_colors view) columns rows cells margin) ≡ text_of_lines with_colors (spanned_table view columns rows cells margin)
unfolding text_of_lines
spanned_written_if true view columns rows cells margin = refl
spanned_written_if false view columns rows cells margin =
    ap (join_with_byte 10)
    (text_without_colors (spanned_table (looks.with_colors_if false view) columns rows cells margin) ∙ spanned_table_same false view columns rows cells cells (λ r c k. refl) margin
    ∙ sym (text_without_colors (spanned_table view columns rows cells margin)))

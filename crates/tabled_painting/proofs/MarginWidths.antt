-- A margin keeps lines as wide as each other, and vertical lines straight.
use Rattle.std.proofs.Common.{◌≡◌, ℕ, ◌+◌, ◌-◌, ◌<◌, zero, suc, Bool, true, false, if◌then◌else◌, Option, None, List, [], ◌∷◌, ◌++◌, map, length, replicate, take, drop, encode_utf8, refl, sym, ap, subst, ◌∙◌, arith, append_assoc, length-append}
use Rattle.std.specs.List.{sum_by, All, AllZip, range_with_len}
use Rattle.std.proofs.lemmas.List.{map-append, length-map, length-replicate, take_at, drop_at}
use Rattle.std.proofs.lemmas.List.Elements.{All-nil, All-cons, All-head, All-tail, All-append}
use Rattle.std.proofs.lemmas.List.Sums.{sum_by-cons}
use Rattle.tabled_object.specs.Entities.{below}
use Rattle.tabled_border.specs.Texts.{Texts}
use Rattle.tabled_places.specs.declared.place.Place.{Place}
use Rattle.tabled_places.specs.declared.place.LineOf.{LineOf}
use Rattle.tabled_layout.specs.declared.margin.Margin.{Margin}
use Rattle.tabled_printing.specs.Along.{along}
use Rattle.tabled_printing.specs.Picture.{Look, character}
use Rattle.tabled_width.specs.Narrow.{is_narrow, draws_plainly, StandsAt}
use Rattle.tabled_printing.specs.Columns.{columns_before, table_width}
use Rattle.tabled_width.proofs.Ranges.{plainly_narrow}
use Rattle.tabled_printing.proofs.Straight.{Cut, stands_from_cut, AllZip-weaker}
use Rattle.tabled_width.proofs.Tiles.{Tile, Tile-append, Tile-times, Tile-same, Tile-flat}
use Rattle.tabled_cells.specs.Placed.{times}
use Rattle.tabled_painting.specs.Painted.{Painted, paint, plain}
use Rattle.tabled_painting.specs.Margin.{Side, fill_shown, side_at, is_left_out, between_sides, strip, in_margin, left_side, right_side, top_side, bottom_side}
use Rattle.tabled_painting.specs.Widths.{between_strips, StandsStraightIn}
use Rattle.tabled_painting.proofs.PainterLemmas.{plain_paint}
use Rattle.tabled_painting.proofs.Plain.{plain_flat, plain_three}

-- ---- sides

-- what is shown in a side is narrow
shown_narrow : (fill : ℕ) → is_narrow (fill_shown fill) ≡ true
shown_narrow fill = by_test (draws_plainly fill) refl
  where
    by_test : (plainly : Bool) → draws_plainly fill ≡ plainly → is_narrow (if plainly then fill else 32) ≡ true
    by_test true e = plainly_narrow fill e
    by_test false e = refl

fill_tile : (out : Bool) (color : Option Texts) (count fill : ℕ) → is_narrow fill ≡ true → Tile count (plain (if out then paint None (times count 32) else paint color (times count fill)))
fill_tile true color count fill narrow = subst (Tile count) (sym (plain_paint None (times count 32))) (Tile-times count 32 refl)
fill_tile false color count fill narrow = subst (Tile count) (sym (plain_paint color (times count fill))) (Tile-times count fill narrow)

module _ (side : Side) (narrow : is_narrow side.fill ≡ true) where
  side_tile : (extent n count : ℕ) → Tile count (plain (side_at side extent n count))
  unfolding side_at
  side_tile extent n count = fill_tile (is_left_out side.offset extent n) side.color count side.fill narrow

  ones : (start count : ℕ) → sum_by (λ n. 1) (range_with_len start count) ≡ count
  ones start zero = refl
  ones start (suc count) = let more = sum_by-cons (λ (n : ℕ). 1) start (range_with_len (start + 1) count) in let rest = ones (start + 1) count in omega (arith, more, rest)

  -- a strip is as wide as it is long
  strip_tile : (long : ℕ) → Tile long (plain (strip side long))
  strip_tile long =
      subst (Tile long) (sym (plain_flat (λ n. side_at side long n 1) (below long)))
      (Tile-same _ _ _ (ones 0 long) (Tile-flat (λ n. plain (side_at side long n 1)) (λ n. 1) 0 long (λ n least most. side_tile long n 1)))

  strips_tiles : (long count : ℕ) → All (Tile long) (map plain (replicate count (strip side long)))
  strips_tiles long zero = All-nil (Tile long)
  strips_tiles long (suc count) = All-cons (Tile long) (plain (strip side long)) (map plain (replicate count (strip side long))) (strip_tile long) (strips_tiles long count)

-- ---- lines between sides

module _ (left right : Side) (high : ℕ) (left_narrow : is_narrow left.fill ≡ true) (right_narrow : is_narrow right.fill ≡ true) where
  abbrev set_between : ℕ → Painted → Painted
  set_between n line = side_at left high n left.size ++ line ++ side_at right high n right.size

  set_parts : (n : ℕ) (line : Painted) → plain (set_between n line) ≡ plain (side_at left high n left.size) ++ plain line ++ plain (side_at right high n right.size)
  set_parts n line = plain_three (side_at left high n left.size) line (side_at right high n right.size)

  set_tile : (n width : ℕ) (line : Painted) → Tile width (plain line) → Tile (left.size + width + right.size) (plain (set_between n line))
  set_tile n width line tile =
      subst (Tile (left.size + width + right.size)) (sym (set_parts n line))
      (Tile-append (left.size + width) right.size (plain (side_at left high n left.size) ++ plain line) (plain (side_at right high n right.size))
      (Tile-append left.size width (plain (side_at left high n left.size)) (plain line) (side_tile left left_narrow high n left.size) tile) (side_tile right right_narrow high n right.size))

  -- a line is cut between the sides where it is cut
  set_cut : (n column mark : ℕ) (line : Painted) → Cut column mark (plain line) → Cut (left.size + column) mark (plain (set_between n line))
  set_cut n column mark line cut =
      let before : List ℕ = plain (side_at left high n left.size) in
      let after : List ℕ = plain (side_at right high n right.size) in
      record {
        front = before ++ cut.front;
        back = cut.back ++ after;
        rest = cut.rest + right.size;
        parts = set_parts n line ∙ ap (λ bs. before ++ bs ++ after) cut.parts ∙ regroup before cut.front (encode_utf8 mark) cut.back after;
        first = Tile-append left.size column before cut.front (side_tile left left_narrow high n left.size) cut.first;
        middle = cut.middle;
        last = Tile-append cut.rest right.size cut.back after cut.last (side_tile right right_narrow high n right.size);
      }
    where
      regroup : (a b c d e : List ℕ) → a ++ (b ++ c ++ d) ++ e ≡ (a ++ b) ++ c ++ (d ++ e)
      regroup a b c d e =
          ap (λ bs. bs ++ e) (sym (append_assoc a (b ++ c) d) ∙ ap (λ bs. bs ++ d) (sym (append_assoc a b c))) ∙ append_assoc ((a ++ b) ++ c) d e

  between_tiles : (n width : ℕ) (lines : List Painted) → All (Tile width) (map plain lines) → All (Tile (left.size + width + right.size)) (map plain (between_sides left right high n lines))
  between_tiles n width [] all = All-nil (Tile (left.size + width + right.size))
  between_tiles n width (line ∷ lines) all =
      All-cons (Tile (left.size + width + right.size)) (plain (set_between n line)) (map plain (between_sides left right high (n + 1) lines))
      (set_tile n width line (All-head (Tile width) (plain line) (map plain lines) all)) (between_tiles (n + 1) width lines (All-tail (Tile width) (plain line) (map plain lines) all))

  between_cut : (column : ℕ) (mark : Place → ℕ) (n : ℕ) (places : List Place) (lines : List Painted) → AllZip (λ place line. Cut column (mark place) line) places (map plain lines)
      → AllZip (λ place line. Cut (left.size + column) (mark place) line) places (map plain (between_sides left right high n lines))
  between_cut column mark n [] [] all = tt
  between_cut column mark n [] (line ∷ lines) all = all
  between_cut column mark n (place ∷ places) [] all = all
  between_cut column mark n (place ∷ places) (line ∷ lines) all =
      (set_cut n column (mark place) line all.0, between_cut column mark (n + 1) places lines all.1)

  between_long : (n : ℕ) (lines : List Painted) → length (map plain (between_sides left right high n lines)) ≡ length lines
  between_long n [] = refl
  between_long n (line ∷ lines) = ap suc (between_long (n + 1) lines)

-- ---- the whole margin

module _ (view : Look) (margin : Margin) (lines : List Painted) (columns : ℕ) (all : columns ≡ table_width view) where
  abbrev wide : ℕ
  wide = margin.size.left.size + columns + margin.size.right.size

  left_ok : is_narrow (left_side margin).fill ≡ true
  left_ok = shown_narrow margin.size.left.fill

  right_ok : is_narrow (right_side margin).fill ≡ true
  right_ok = shown_narrow margin.size.right.fill

  abbrev above : List (List ℕ)
  above = map plain (replicate margin.size.top.size (strip (top_side margin) wide))

  abbrev between : List (List ℕ)
  between = map plain (between_sides (left_side margin) (right_side margin) (length lines) 0 lines)

  abbrev under : List (List ℕ)
  under = map plain (replicate margin.size.bottom.size (strip (bottom_side margin) wide))

  in_parts : map plain (in_margin margin columns lines) ≡ above ++ between ++ under
  in_parts =
      map-append plain (replicate margin.size.top.size (strip (top_side margin) wide) ++ between_sides (left_side margin) (right_side margin) (length lines) 0 lines)
      (replicate margin.size.bottom.size (strip (bottom_side margin) wide))
      ∙ ap (λ l. l ++ under) (map-append plain (replicate margin.size.top.size (strip (top_side margin) wide)) (between_sides (left_side margin) (right_side margin) (length lines) 0 lines))

  -- each line is as wide as the table with both sides
  pub margin_tiles : All (Tile (table_width view)) (map plain lines) → All (Tile (margin.size.left.size + table_width view + margin.size.right.size)) (map plain (in_margin margin columns lines))
  margin_tiles each =
      subst (λ n. All (Tile (margin.size.left.size + n + margin.size.right.size)) (map plain (in_margin margin columns lines))) all
      (subst (All (Tile wide)) (sym in_parts)
      (All-append (Tile wide) (above ++ between) under
      (All-append (Tile wide) above between (strips_tiles (top_side margin) (shown_narrow margin.size.top.fill) wide margin.size.top.size)
      (between_tiles (left_side margin) (right_side margin) (length lines) left_ok right_ok 0 columns lines (subst (λ n. All (Tile n) (map plain lines)) (sym all) each)))
      (strips_tiles (bottom_side margin) (shown_narrow margin.size.bottom.fill) wide margin.size.bottom.size)))

  strip_count : (side : Side) (k : ℕ) → length (map plain (replicate k (strip side wide))) ≡ k
  strip_count side k = length-map (replicate k (strip side wide)) plain ∙ length-replicate {A = Painted} k (strip side wide)

  -- the lines between the strips are those of the table
  middle_is : between_strips margin (map plain (in_margin margin columns lines)) ≡ between
  middle_is =
      let top = strip_count (top_side margin) margin.size.top.size in
      let bottom = strip_count (bottom_side margin) margin.size.bottom.size in
      let long : length (above ++ between ++ under) ≡ length above + length between + length under =
      length-append (above ++ between) under ∙ ap (λ n. n + length under) (length-append above between) in
      let count : length between ≡ length (above ++ between ++ under) - margin.size.top.size - margin.size.bottom.size = omega (arith, long, top, bottom) in
      ap (between_strips margin) in_parts
      ∙ ap (take (length (above ++ between ++ under) - margin.size.top.size - margin.size.bottom.size))
      (ap (drop margin.size.top.size) (append_assoc above between under) ∙ drop_at above (between ++ under) margin.size.top.size top)
      ∙ take_at between under (length (above ++ between ++ under) - margin.size.top.size - margin.size.bottom.size) count

  pub margin_some : 0 < length lines → 0 < length (map plain (in_margin margin columns lines))
  margin_some some =
      let long = ap length in_parts ∙ length-append (above ++ between) under in
      let first = length-append above between in
      let own = between_long (left_side margin) (right_side margin) (length lines) left_ok right_ok 0 lines in
      omega (arith, some, long, first, own)

  pub margin_straight : (c : ℕ) → AllZip (λ place line. Cut (columns_before view c) (character (view.shown place)) line)
      (along view.horizontal view.vertical view.shape view.widths view.heights (LineOf.Vertical c)) (map plain lines)
      → StandsStraightIn view margin c (map plain (in_margin margin columns lines))
  margin_straight c straight =
      let places : List Place = along view.horizontal view.vertical view.shape view.widths view.heights (LineOf.Vertical c) in
      let column : ℕ = margin.size.left.size + columns_before view c in
      subst (λ l. AllZip (λ place line. StandsAt column (character (view.shown place)) line) places l) (sym middle_is)
      (AllZip-weaker (λ place line. Cut column (character (view.shown place)) line) (λ place line. StandsAt column (character (view.shown place)) line) places between
      (λ place line cut. stands_from_cut column (character (view.shown place)) line cut)
      (between_cut (left_side margin) (right_side margin) (length lines) left_ok right_ok (columns_before view c) (λ place. character (view.shown place)) 0 places lines straight))

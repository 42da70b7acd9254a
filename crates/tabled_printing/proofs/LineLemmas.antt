-- The places of a line, piece by piece.
use Rattle.std.proofs.Common.{◌≡◌, ℕ, ◌+◌, ◌≤◌, ◌<◌, Bool, true, false, not, ◌||◌, ◌&&◌, cond, nat_le, nat_lt, if◌then◌else◌, List, [], ◌++◌, length, get_or, take, map, refl, ap, sym, ◌∙◌, arith, length-append}
use Rattle.std.proofs.lemmas.Bool.Decides.{nat_tests}
use Rattle.std.specs.List.{flat_map}
use Rattle.std.proofs.lemmas.Bool.{le-leb}
use Rattle.std.proofs.lemmas.List.{map-append, map-id, length-map}
use Rattle.std.proofs.lemmas.List.Folds.{length-flat_map-take}
use Rattle.std.proofs.lemmas.List.FromFn.{get_or-range_with_len, length-range_with_len, length-map-range_with_len, take-map-range_with_len}
use Rattle.tabled_object.specs.Entities.{below}
use Rattle.tabled_places.specs.declared.place.LineOf.{LineOf}
use Rattle.tabled_configuration.proofs.Below.{flat_map_below}
use Rattle.tabled_configuration.specs.Configuration.{ConfigEvent}
use Rattle.tabled_printing.specs.Along.{is_empty, along}
use Rattle.tabled_printing.specs.Picture.{Look, look, edge_size, mark_at, marks_along}
use Rattle.tabled_printing.specs.LinePieces.{has_line, pieces_of, piece_size, crossed, crossed_after, crossing_of, edge_of, crossing_places, edge_places, piece_places, places_before, all_places, lines_met}

not_past : (empty : Bool) (number last : ℕ) → not empty && nat_le number last ≡ true → empty || nat_lt last number ≡ false
not_past empty number last there = grind (arith, nat_tests)

-- the pieces of a line that is there are its places
pub along_pieces : (view : Look) (line : LineOf) → has_line view.shape line ≡ true → along view.horizontal view.vertical view.shape view.widths view.heights line ≡ all_places view line
unfolding all_places places_before
along_pieces view (LineOf.Horizontal r) there = ap (λ b. cond b [] (all_places view (LineOf.Horizontal r))) (not_past (is_empty view.shape) r view.shape.0 there)
along_pieces view (LineOf.Vertical c) there = ap (λ b. cond b [] (all_places view (LineOf.Vertical c))) (not_past (is_empty view.shape) c view.shape.1 there)

-- a horizontal line is there where the table has places and the line is not past the last one
pub horizontal_there : (shape : ℕ × ℕ) (r : ℕ) → is_empty shape ≡ false → r ≤ shape.0 → has_line shape (LineOf.Horizontal r) ≡ true
horizontal_there shape r any within = ap (λ empty. not empty && nat_le r shape.0) any ∙ le-leb r shape.0 within

-- and so is the first vertical line
pub vertical_there : (shape : ℕ × ℕ) → is_empty shape ≡ false → has_line shape (LineOf.Vertical 0) ≡ true
vertical_there shape any = ap (λ empty. not empty && nat_le 0 shape.1) any ∙ le-leb 0 shape.1 (omega arith)

-- a line that is there has a piece
pub pieces_there : (shape : ℕ × ℕ) (line : LineOf) → has_line shape line ≡ true → 0 < pieces_of shape line
pieces_there shape (LineOf.Horizontal r) there = grind (arith, nat_tests)
pieces_there shape (LineOf.Vertical c) there = grind (arith, nat_tests)

-- a line that is not there has none
past_last : (empty : Bool) (number last : ℕ) → not empty && nat_le number last ≡ false → empty || nat_lt last number ≡ true
past_last empty number last absent = grind (arith, nat_tests)

pub no_places : (view : Look) (line : LineOf) → has_line view.shape line ≡ false → along view.horizontal view.vertical view.shape view.widths view.heights line ≡ []
unfolding all_places places_before
no_places view (LineOf.Horizontal r) absent = ap (λ b. cond b [] (all_places view (LineOf.Horizontal r))) (past_last (is_empty view.shape) r view.shape.0 absent)
no_places view (LineOf.Vertical c) absent = ap (λ b. cond b [] (all_places view (LineOf.Vertical c))) (past_last (is_empty view.shape) c view.shape.1 absent)

-- whether a line is crossed is how the table looks
pub crossed_is : (es : List ConfigEvent) (shape : ℕ × ℕ) (widths heights : ℕ → ℕ) (line : LineOf) (n : ℕ) → crossed_after es shape line n ≡ crossed (look es shape widths heights).horizontal (look es shape widths heights).vertical line n
crossed_is es shape widths heights (LineOf.Horizontal r) n = refl
crossed_is es shape widths heights (LineOf.Vertical c) n = refl

-- a crossing has no length, and an edge that of its column or row
pub crossing_size : (widths heights : ℕ → ℕ) (line : LineOf) (n : ℕ) → edge_size widths heights (crossing_of line n) ≡ 0
crossing_size widths heights (LineOf.Horizontal r) n = refl
crossing_size widths heights (LineOf.Vertical c) n = refl

pub edge_length : (widths heights : ℕ → ℕ) (line : LineOf) (n k : ℕ) → edge_size widths heights (edge_of line n k) ≡ piece_size widths heights line n
edge_length widths heights (LineOf.Horizontal r) n k = refl
edge_length widths heights (LineOf.Vertical c) n k = refl

module _ (view : Look) (line : LineOf) where
  -- how many places an edge has
  pub edge_count : (n : ℕ) → length (edge_places view line n) ≡ piece_size view.widths view.heights line n
  edge_count n = length-map-range_with_len (edge_of line n) 0 (piece_size view.widths view.heights line n)

  -- one more piece
  pub before_more : (n : ℕ) → places_before view line (n + 1) ≡ places_before view line n ++ piece_places view line n
  unfolding places_before
  before_more n = flat_map_below (piece_places view line) n

  pub before_more_count : (n : ℕ) → length (places_before view line (n + 1)) ≡ length (places_before view line n) + length (piece_places view line n)
  before_more_count n = ap length (before_more n) ∙ length-append (places_before view line n) (piece_places view line n)

  pub all_count : length (all_places view line) ≡ length (places_before view line (pieces_of view.shape line)) + length (crossing_places view line (pieces_of view.shape line))
  unfolding all_places
  all_count = length-append (places_before view line (pieces_of view.shape line)) (crossing_places view line (pieces_of view.shape line))

  -- the places before a piece, and its own, are no more than all
  pub piece_fits : (n : ℕ) → n < pieces_of view.shape line → length (places_before view line n) + length (piece_places view line n) ≤ length (all_places view line)
  unfolding places_before
  piece_fits n h =
      let count : ℕ = pieces_of view.shape line in
      let front : take n (below count) ≡ below n = sym (ap (take n) (map-id (below count))) ∙ take-map-range_with_len (λ k. k) 0 count n (omega arith) ∙ map-id (below n) in
      let here : get_or (below count) n 0 ≡ n = get_or-range_with_len 0 count n 0 h ∙ omega arith in
      let most = length-flat_map-take (piece_places view line) (below count) n 0 (omega (arith, length-range_with_len 0 count)) in
      omega (arith, most, ap (λ ns. length (flat_map (piece_places view line) ns)) front, ap (λ m. length (piece_places view line m)) here, all_count)

  -- the marks of no piece, of one more, and of all
  pub no_marks_before : map (mark_at view) (places_before view line 0) ≡ []
  unfolding places_before
  no_marks_before = refl

  pub marks_more : (n : ℕ) → map (mark_at view) (places_before view line (n + 1)) ≡ map (mark_at view) (places_before view line n) ++ map (mark_at view) (piece_places view line n)
  marks_more n = ap (map (mark_at view)) (before_more n) ∙ map-append (mark_at view) (places_before view line n) (piece_places view line n)

  pub marks_closed : map (mark_at view) (all_places view line) ≡ map (mark_at view) (places_before view line (pieces_of view.shape line)) ++ map (mark_at view) (crossing_places view line (pieces_of view.shape line))
  unfolding all_places
  marks_closed = map-append (mark_at view) (places_before view line (pieces_of view.shape line)) (crossing_places view line (pieces_of view.shape line))

  pub piece_marks : (n : ℕ) → map (mark_at view) (piece_places view line n) ≡ map (mark_at view) (crossing_places view line n) ++ map (mark_at view) (edge_places view line n)
  piece_marks n = map-append (mark_at view) (crossing_places view line n) (edge_places view line n)

-- the marks of a line that is there
pub marks_are : (view : Look) (line : LineOf) → has_line view.shape line ≡ true → marks_along view line ≡ map (mark_at view) (all_places view line)
marks_are view line there = ap (map (mark_at view)) (along_pieces view line there)

-- how many marks there are, and how many lines meet it
pub marks_count : (view : Look) (line : LineOf) → has_line view.shape line ≡ true → length (marks_along view line) ≡ length (all_places view line)
marks_count view line there = ap length (marks_are view line there) ∙ length-map (all_places view line) (mark_at view)

pub all_met : (shape : ℕ × ℕ) (line : LineOf) → has_line shape line ≡ true → lines_met shape line ≡ pieces_of shape line + 1
all_met shape line there = ap (λ b. if b then pieces_of shape line + 1 else 0) there

-- What edges, crossings and vertical lines have in common, where nothing is kept for single places or single lines.
use Rattle.std.proofs.Common.{◌≡◌, ℕ, ◌+◌, ◌==◌, ◌<◌, ◌≤◌, nat_le, zero, suc, Bool, true, false, if◌then◌else◌, Option, Some, None, is_some, option_map, option_and_then, List, [], ◌∷◌, ◌++◌, map, get_or, length, refl, sym, ap, subst, ◌∙◌, arith}
use Rattle.std.specs.Option.{ForSome}
use Rattle.std.specs.FinMap.{FinMap, empty, get, get-empty}
use Rattle.std.specs.Ordering.{nat_cmp}
use Rattle.std.specs.declared.cmp.Ordering.{Ordering}
use Rattle.std.proofs.lemmas.Bool.{lt-ltb}
use Rattle.std.proofs.lemmas.Bool.Decides.{nat_tests}
use Rattle.std.proofs.lemmas.Grind.{common_steps}
use Rattle.std.proofs.lemmas.List.{get_or-map, length-map}
use Rattle.std.proofs.lemmas.List.FromFn.{get_or-map-range_with_len, length-map-range_with_len, map-range_with_len_more}
use Rattle.tabled_places.specs.declared.place.Place.{Place}
use Rattle.tabled_places.specs.declared.place.LineOf.{LineOf}
use Rattle.tabled_places.specs.declared.place.Rank.{Rank}
use Rattle.tabled_places.specs.declared.place.Rank.TheVariants.{Inner as inner}
use Rattle.tabled_places.specs.declared.event.Written.TheVariants.{Sign as sign}
use Rattle.tabled_places.specs.declared.site.Direction.TheVariants.{Horizontal, Vertical}
use Rattle.tabled_places.specs.declared.site.Spot.TheVariants.{Edge, Crossing}
use Rattle.tabled_places.specs.declared.site.Class.TheVariants.{Edges as edges, Crossings as crossings}
use Rattle.tabled_places.specs.declared.site.Part.TheVariants.{Crossings as meeting}
use Rattle.tabled_places.specs.declared.site.Site.{Site}
use Rattle.tabled_places.specs.declared.site.Site.TheVariants.{Class as of_class, Line as of_line, Cell as at_spot}
use Rattle.tabled_places.specs.Drawn.{draws, drawn, Drawn}
use Rattle.tabled_places.specs.Site.{rank, stands}
use Rattle.tabled_places.specs.Calls.{edge_of as spot_of}
use Rattle.tabled_places.specs.Value.{plain_value}
use Rattle.tabled_places.specs.State.{State, state_at, vertical_part, HasNoCells, HasNoCellsOn}
use Rattle.tabled_places.specs.Keys.{spot_cmp}
use Rattle.tabled_object.specs.Entities.{below}
use Rattle.tabled_configuration.specs.Configuration.{Configuration, all_writes, characters_of, colors_of}
use Rattle.tabled_configuration.proofs.ConfigurationLemmas.{shown_characters, shown_colors}
use Rattle.tabled_printing.specs.declared.sides.RowSide.{RowSide}
use Rattle.tabled_printing.specs.declared.sides.RowSides.{RowSides}
use Rattle.tabled_printing.specs.Alike.{IsBareLine, NoneBeside, NoneForCells, NoneForColumns, NoOffsetsAt, HasNoOffsetsOf}
use Rattle.tabled_printing.specs.LinePieces.{pieces_of, piece_size, crossing_of, edge_of, crossing_places, piece_places}
use Rattle.tabled_printing.specs.Picture.{Look, Shown, look, mark_at}
use Rattle.tabled_printing.specs.Beside.{plain_mark, plain_side, mark_if_drawn}
use Rattle.tabled_printing.specs.Sides.{side_at, AreSides}
use Rattle.tabled_printing.specs.SideMarks.{side_mark, IsAlikeSide}
use Rattle.tabled_printing.specs.Viewed.{with_colors_if}
use Rattle.tabled_printing.proofs.LineLemmas.{piece_marks}
use Rattle.tabled_printing.proofs.LookLemmas.{kept_crossing, kept_drawn, kept_edge, own_drawn}
use Rattle.tabled_printing.proofs.MarkLemmas.{mark_by, alike_edge}

-- what a map without entries has under a key, and the rank of a line between the first one and the last one
pub absent : {K X : Type 0} (R : K → K → Ordering) (m : FinMap R X) (k : K) → m ≡ empty → get m k ≡ None
absent R m k none = ap (λ n. get n k) none ∙ get-empty R k

pub between : (count n : ℕ) → 0 < n → n < count → rank count n ≡ inner
between count n some within = grind (arith, nat_tests)

-- a number is itself
pub itself : (n : ℕ) → (n == n) ≡ true
itself n = grind (arith, nat_tests)

lt_leb : (n m : ℕ) → n < m → nat_le n m ≡ true
lt_leb n m within = grind (arith, nat_tests)

-- where something is kept for neither of two places, they are alike
module _ {T : Type 0} (state : State T) (shape : ℕ × ℕ) where
  -- two edges of a line
  pub edges_same : (line : LineOf) (n m : ℕ) → get state.cells (spot_of line n) ≡ None → get state.cells (spot_of line m) ≡ None → n < pieces_of shape line → m < pieces_of shape line
      → plain_value (state_at state) shape (edge_of line n 0) ≡ plain_value (state_at state) shape (edge_of line m 0)
  unfolding plain_value
  edges_same (LineOf.Horizontal r) n m none_n none_m in_n in_m = simp (none_n, none_m, lt-ltb n shape.1 in_n, lt-ltb m shape.1 in_m)
  edges_same (LineOf.Vertical c) n m none_n none_m in_n in_m = simp (none_n, none_m, lt-ltb n shape.0 in_n, lt-ltb m shape.0 in_m)

  -- two crossings of a horizontal line, neither with the first vertical line nor with the last, where no vertical line is a custom one
  pub crossings_same : (r n m : ℕ) → HasNoCellsOn (LineOf.Horizontal r) state → state.vertical_lines ≡ empty → 0 < n → n < shape.1 → 0 < m → m < shape.1
      → plain_value (state_at state) shape (Place.Cross r n) ≡ plain_value (state_at state) shape (Place.Cross r m)
  unfolding plain_value
  crossings_same r n m cells lines some_n in_n some_m in_m = simp (cells (Crossing r n) (itself r), cells (Crossing r m) (itself r), absent, lt_leb, between)

  -- and two such vertical lines beside the first row
  sides_same : (n m : ℕ) → HasNoCells state → state.vertical_lines ≡ empty → 0 < n → n < shape.1 → 0 < m → m < shape.1
      → plain_value (state_at state) shape (Place.Vertical 0 n 0) ≡ plain_value (state_at state) shape (Place.Vertical 0 m 0)
  unfolding plain_value
  sides_same n m cells lines some_n in_n some_m in_m = simp (absent, lt_leb, between)

-- ---- drawn lines

-- a rank stands at one inner line as at another
stands_same : (place : Rank) (count n m : ℕ) → 0 < n → n < count → 0 < m → m < count → stands place count n ≡ stands place count m
stands_same _ count n m some_n in_n some_m in_m = grind (arith, nat_tests)

-- of two vertical lines, neither the first one nor the last one, the same sites draw the one and the other, where nothing is kept for
-- single places and no vertical line is a custom one
module _ {T : Type 0} (state : State T) (count n m : ℕ) (cells : HasNoCells state) (lines : state.vertical_lines ≡ empty) (some_n : 0 < n) (in_n : n < count) (some_m : 0 < m) (in_m : m < count) where
  drawn_too : (q : Site) → is_some (state_at state q) ≡ true → draws count (LineOf.Vertical n) q ≡ true → draws count (LineOf.Vertical m) q ≡ true
  drawn_too (of_class (edges Vertical place)) kept drew = sym (stands_same place count n m some_n in_n some_m in_m) ∙ drew
  drawn_too (of_class (crossings row col)) kept drew = sym (stands_same col count n m some_n in_n some_m in_m) ∙ drew
  drawn_too (of_line (LineOf.Horizontal r) (meeting place)) kept drew = sym (stands_same place count n m some_n in_n some_m in_m) ∙ drew
  drawn_too (of_line (LineOf.Vertical c) part) kept drew = let none = ap (λ found. is_some (option_and_then (vertical_part part) found)) (absent nat_cmp state.vertical_lines c lines) in cc
  drawn_too (at_spot spot) kept drew = let none = ap (λ found. is_some (option_map sign found)) (absent spot_cmp state.cells spot cells) in cc
  drawn_too _ kept drew = drew

  pub Drawn_too : Drawn (state_at state) count (LineOf.Vertical n) → Drawn (state_at state) count (LineOf.Vertical m)
  Drawn_too d = record { no_further = omega (arith, in_m); by = d.by; draws_it = drawn_too d.by d.is_kept d.draws_it; is_kept = d.is_kept }

-- ---- with colors, where these are wanted

-- a color that is wanted, or none
pub if_same : {X : Type 0} (wanted : Bool) (x y : Option X) → (wanted ≡ true → x ≡ y) → (if wanted then x else None) ≡ (if wanted then y else None)
if_same true x y same = same refl
if_same false x y same = refl

module _ (cfg : Configuration) (wanted : Bool) (shape : ℕ × ℕ) where
  -- two marks that are kept
  marks_same : (p q : Place) → plain_value (state_at cfg.characters) shape p ≡ plain_value (state_at cfg.characters) shape q
      → (wanted ≡ true → plain_value (state_at cfg.colors) shape p ≡ plain_value (state_at cfg.colors) shape q) → plain_mark cfg wanted shape p ≡ plain_mark cfg wanted shape q
  marks_same p q chars colors = mark_by _ _ _ _ chars (if_same wanted (plain_value (state_at cfg.colors) shape p) (plain_value (state_at cfg.colors) shape q) colors)

  -- of an edge without offsets that is what each of its places shows, and of a crossing what it shows
  pub edge_shows : (widths heights : ℕ → ℕ) (line : LineOf) (n k : ℕ) → HasNoOffsetsOf line n cfg.characters → (wanted ≡ true → HasNoOffsetsOf line n cfg.colors) → k < piece_size widths heights line n
      → plain_mark cfg wanted shape (edge_of line n 0) ≡ mark_at (with_colors_if wanted (look (all_writes cfg) shape widths heights)) (edge_of line n k)
  edge_shows widths heights line n k none uncolored within =
      mark_by _ _ _ _ (kept_edge (characters_of (all_writes cfg)) cfg.characters shape widths heights line n (shown_characters cfg) k none within)
      (if_same wanted _ _ (λ yes. kept_edge (colors_of (all_writes cfg)) cfg.colors shape widths heights line n (shown_colors cfg) k (uncolored yes) within))

  pub crossing_shows : (widths heights : ℕ → ℕ) (line : LineOf) (n : ℕ) → plain_mark cfg wanted shape (crossing_of line n) ≡ mark_at (with_colors_if wanted (look (all_writes cfg) shape widths heights)) (crossing_of line n)
  crossing_shows widths heights line n =
      mark_by _ _ _ _ (kept_crossing (characters_of (all_writes cfg)) cfg.characters shape widths heights line n (shown_characters cfg))
      (if_same wanted _ _ (λ yes. kept_crossing (colors_of (all_writes cfg)) cfg.colors shape widths heights line n (shown_colors cfg)))

  -- each edge of a horizontal line shows what the first one does, and each crossing but the first and the last what the second does
  module _ (r : ℕ) (bare : IsBareLine cfg wanted r) where
    pub edge_as_first : (widths heights : ℕ → ℕ) (n k : ℕ) → n < shape.1 → k < widths n
        → plain_mark cfg wanted shape (Place.Horizontal r 0 0) ≡ mark_at (with_colors_if wanted (look (all_writes cfg) shape widths heights)) (Place.Horizontal r n k)
    edge_as_first widths heights n k in_n within =
        marks_same (Place.Horizontal r 0 0) (Place.Horizontal r n 0)
        (edges_same cfg.characters shape (LineOf.Horizontal r) 0 n (bare.cells.characters (Edge Horizontal r 0) (itself r)) (bare.cells.characters (Edge Horizontal r n) (itself r)) (omega (arith, in_n)) in_n)
        (λ yes. edges_same cfg.colors shape (LineOf.Horizontal r) 0 n (bare.cells.colors yes (Edge Horizontal r 0) (itself r)) (bare.cells.colors yes (Edge Horizontal r n) (itself r)) (omega (arith, in_n)) in_n)
        ∙ edge_shows widths heights (LineOf.Horizontal r) n k (bare.offsets.characters n) (λ yes. bare.offsets.colors yes n) within

    pub crossing_as_second : NoneForColumns cfg wanted → (n : ℕ) → 0 < n → n < shape.1 → plain_mark cfg wanted shape (Place.Cross r 1) ≡ plain_mark cfg wanted shape (Place.Cross r n)
    crossing_as_second lines n some within =
        marks_same (Place.Cross r 1) (Place.Cross r n)
        (crossings_same cfg.characters shape r 1 n bare.cells.characters lines.characters (omega arith) (omega (arith, some, within)) some within)
        (λ yes. crossings_same cfg.colors shape r 1 n (bare.cells.colors yes) (lines.colors yes) (omega arith) (omega (arith, some, within)) some within)

  -- beside each row a vertical line shows what it does beside the first one
  pub side_as_first : (widths heights : ℕ → ℕ) (r k c : ℕ) → NoneBeside cfg wanted shape.0 c → NoOffsetsAt cfg wanted Vertical r → r < shape.0 → k < heights r
      → plain_mark cfg wanted shape (Place.Vertical 0 c 0) ≡ mark_at (with_colors_if wanted (look (all_writes cfg) shape widths heights)) (Place.Vertical r c k)
  side_as_first widths heights r k c none offsets in_r within =
      let some : 0 < shape.0 = omega (arith, in_r) in
      marks_same (Place.Vertical 0 c 0) (Place.Vertical r c 0)
      (edges_same cfg.characters shape (LineOf.Vertical c) 0 r (none.characters 0 some) (none.characters r in_r) some in_r)
      (λ yes. edges_same cfg.colors shape (LineOf.Vertical c) 0 r (none.colors yes 0 some) (none.colors yes r in_r) some in_r)
      ∙ edge_shows widths heights (LineOf.Vertical c) r k (offsets.characters c) (λ yes. offsets.colors yes c) within

  -- each vertical line but the first and the last is drawn, and shows beside the first row, as the second is and does
  pub side_as_second : NoneForCells cfg wanted → NoneForColumns cfg wanted → (n : ℕ) → 0 < n → n < shape.1 → plain_side cfg wanted shape 1 ≡ plain_side cfg wanted shape n
  side_as_second places lines n some within =
      let more : 1 < shape.1 = omega (arith, some, within) in
      let by = kept_drawn cfg shape.1 (LineOf.Vertical 1) in
      let same_drawn = own_drawn cfg shape.1 (LineOf.Vertical n) (drawn (characters_of (all_writes cfg)) shape.1 (LineOf.Vertical 1)) (
        λ yes. Drawn_too cfg.characters shape.1 1 n places.characters lines.characters (omega arith) more some within (by.0 yes),
        λ other. by.1 (Drawn_too cfg.characters shape.1 n 1 places.characters lines.characters some within (omega arith) more other),
      ) in
      let same_mark = marks_same (Place.Vertical 0 1 0) (Place.Vertical 0 n 0) (sides_same cfg.characters shape 1 n places.characters lines.characters (omega arith) more some within)
      (λ yes. sides_same cfg.colors shape 1 n (places.colors yes) (lines.colors yes) (omega arith) more some within) in
      λ i. if same_drawn i then Some (same_mark i) else None

-- ---- sides as they are kept

-- one mark more
pub side_more : (g : ℕ → Option Shown) (xs ys : List (Option RowSide)) (x : Option RowSide) (n m : ℕ) → m ≡ n → ys ≡ xs ++ x ∷ [] → map (option_map side_mark) xs ≡ map g (below m) → option_map side_mark x ≡ g n → map (option_map side_mark) ys ≡ map g (below (n + 1))
side_more g xs ys x n m same pushed made is = let more = map-range_with_len_more g 0 n n (omega arith) in grind (arith, common_steps)

-- one by one
pub listed_sides : (cfg : Configuration) (wanted : Bool) (shape : ℕ × ℕ) (marks : List (Option RowSide)) (c : ℕ)
    → map (option_map side_mark) marks ≡ map (plain_side cfg wanted shape) (below (shape.1 + 1)) → c ≤ shape.1 → option_map side_mark (get_or marks c None) ≡ plain_side cfg wanted shape c
listed_sides cfg wanted shape marks c are within =
    let long : length marks ≡ shape.1 + 1 = sym (length-map marks (option_map side_mark)) ∙ ap length are ∙ length-map-range_with_len (plain_side cfg wanted shape) 0 (shape.1 + 1) in
    sym (get_or-map (option_map side_mark) marks c None None (omega (arith, long, within)))
    ∙ ap (λ xs. get_or xs c None) are ∙ get_or-map-range_with_len (plain_side cfg wanted shape) 0 (shape.1 + 1) c c None (omega (arith, within)) (omega arith)

-- or by rank
pub ranked_sides : (cfg : Configuration) (wanted : Bool) (shape : ℕ × ℕ) (one two end : Option RowSide) (c : ℕ) → NoneForCells cfg wanted → NoneForColumns cfg wanted
    → option_map side_mark one ≡ plain_side cfg wanted shape 0 → option_map side_mark two ≡ plain_side cfg wanted shape 1 → option_map side_mark end ≡ plain_side cfg wanted shape shape.1 → c ≤ shape.1
    → option_map side_mark (if c == 0 then one else if c == shape.1 then end else two) ≡ plain_side cfg wanted shape c
ranked_sides cfg wanted shape one two end c places lines is_first is_inner is_end within =
    let same = side_as_second cfg wanted shape places lines c in grind (arith, nat_tests)

-- a line is drawn where it has a mark
pub there : {A B : Type 0} (f : A → B) (found : Option A) → is_some (option_map f found) ≡ is_some found
there f None = refl
there f (Some x) = refl

pub side_drawn : (cfg : Configuration) (wanted : Bool) (shape : ℕ × ℕ) (sides : RowSides) (c : ℕ) → AreSides cfg wanted shape sides → c ≤ shape.1
    → is_some (side_at sides c) ≡ drawn (characters_of (all_writes cfg)) shape.1 (LineOf.Vertical c)
side_drawn cfg wanted shape sides c are within = let is = are.marks c within in grind (arith, common_steps)

-- its mark is what is kept beside the first row
pub drawn_mark : (cfg : Configuration) (wanted : Bool) (shape : ℕ × ℕ) (sides : RowSides) (c : ℕ) (side : RowSide) → AreSides cfg wanted shape sides → c ≤ shape.1 → side_at sides c ≡ Some side
    → side_mark side ≡ plain_mark cfg wanted shape (Place.Vertical 0 c 0)
drawn_mark cfg wanted shape sides c side are within read = let is = are.marks c within in grind (arith, common_steps)

-- ---- which look alike beside all rows

-- one side more
pub alike_more : (cfg : Configuration) (wanted : Bool) (rows : ℕ) (xs ys : List (Option RowSide)) (x : Option RowSide) → ys ≡ xs ++ x ∷ [] → ForSome x (IsAlikeSide cfg wanted rows (length xs))
    → ((c : ℕ) → ForSome (get_or xs c None) (IsAlikeSide cfg wanted rows c)) → (c : ℕ) → ForSome (get_or ys c None) (IsAlikeSide cfg wanted rows c)
alike_more cfg wanted rows xs ys x pushed is all c = subst (λ (list : List (Option RowSide)). ForSome (get_or list c None) (IsAlikeSide cfg wanted rows c)) (sym pushed) (put_last (λ n found. ForSome found (IsAlikeSide cfg wanted rows n)) (λ n side none. absurd cc) xs x is all c)
  where
    put_last : {A : Type 0} (P : ℕ → Option A → Type 0) → ((n : ℕ) → P n None) → (xs : List (Option A)) (x : Option A) → P (length xs) x → ((c : ℕ) → P c (get_or xs c None)) → (c : ℕ) → P c (get_or (xs ++ x ∷ []) c None)
    put_last P none [] x is all zero = is
    put_last P none [] x is all (suc c) = none (suc c)
    put_last P none (y ∷ xs) x is all zero = all 0
    put_last P none (y ∷ xs) x is all (suc c) = put_last (λ n. P (suc n)) (λ n. none (suc n)) xs x is (λ n. all (suc n)) c

-- where nothing is kept for a single edge or crossing, nothing is for one of a vertical line
pub none_on : (cfg : Configuration) (wanted : Bool) (rows c : ℕ) → NoneForCells cfg wanted → NoneBeside cfg wanted rows c
none_on cfg wanted rows c none = record {
  characters = λ r within. absent spot_cmp cfg.characters.cells (Edge Vertical r c) none.characters;
  colors = λ yes r within. absent spot_cmp cfg.colors.cells (Edge Vertical r c) (none.colors yes);
}

-- the mark of a crossing of a line, if it is there
pub last_alike : (view : Look) (r n : ℕ) (crossing : Shown) → crossing ≡ mark_at view (Place.Cross r n)
    → map (mark_at view) (crossing_places view (LineOf.Horizontal r) n) ≡ mark_if_drawn view n crossing
last_alike view r n crossing at_crossing = grind (arith, common_steps)

-- a piece of a line: the mark of its crossing, and that of each place of its edge
pub piece_alike : (view : Look) (r n : ℕ) (crossing edge : Shown) → crossing ≡ mark_at view (Place.Cross r n) → ((k : ℕ) → k < view.widths n → edge ≡ mark_at view (Place.Horizontal r n k))
    → map (mark_at view) (piece_places view (LineOf.Horizontal r) n) ≡ mark_if_drawn view n crossing ++ map (λ _. edge) (below (view.widths n))
piece_alike view r n crossing edge at_crossing along =
    piece_marks view (LineOf.Horizontal r) n
    ∙ (λ i. last_alike view r n crossing at_crossing i ++ sym (alike_edge view (LineOf.Horizontal r) n (view.widths n) edge refl along) i)

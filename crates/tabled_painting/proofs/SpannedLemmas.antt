-- The rooms of cells, and the lines that they stand in, part by part.
use Rattle.std.proofs.Common.{◌≡◌, ◌≢◌, ℕ, ◌+◌, ◌-◌, ◌<◌, ◌≤◌, ◌==◌, ◌&&◌, min, Bool, true, false, if◌then◌else◌, Option, List, [], ◌∷◌, ◌++◌, map, length, set, inl, inr, refl, sym, ap, subst, ◌∙◌, arith, add-one}
use Rattle.std.specs.List.{flat_map}
use Rattle.std.specs.Prelude.{slice_index, slice_index_or}
use Rattle.std.proofs.lemmas.Grind.{get_or_default_zero}
use Rattle.std.proofs.lemmas.Bool.{cases_eq, eqb-true}
use Rattle.std.proofs.lemmas.Bool.Decides.{nat_tests}
use Rattle.std.proofs.lemmas.List.{map-append, get_or_default, get_or-set_same, get_or-set_other, length-set}
use Rattle.std.proofs.lemmas.List.Concat.{flat_map-append}
use Rattle.tabled_object.specs.Entities.{below}
use Rattle.tabled_places.specs.declared.place.Place.{Place}
use Rattle.tabled_places.specs.declared.place.LineOf.{LineOf}
use Rattle.tabled_printing.specs.Along.{is_empty, crossing_at}
use Rattle.tabled_printing.specs.LinePieces.{crossing_places, piece_places, all_places, places_before}
use Rattle.tabled_printing.specs.Picture.{Look, mark_at, marks_along}
use Rattle.tabled_printing.proofs.LineLemmas.{marks_are, horizontal_there}
use Rattle.tabled_rooms.specs.Hosts.{Cell, Counts, host}
use Rattle.tabled_rooms.specs.Holding.{held, cell_of, AreHosts}
use Rattle.tabled_rooms.specs.declared.host.Host.{Host}
use Rattle.tabled_rooms.specs.Rooms.{room_width, room_height, first_line}
use Rattle.tabled_border.specs.Texts.{Texts}
use Rattle.tabled_settings.specs.declared.cell_settings.CellSettings.{CellSettings}
use Rattle.tabled_settings.specs.Live.{Live}
use Rattle.tabled_width.specs.Texts.{Table}
use Rattle.tabled_rooms.proofs.RoomLemmas.{line_within, room_within, width_same}
use Rattle.tabled_rooms.proofs.SizeLemmas.{flat_map_same}
use Rattle.tabled_painting.specs.Pages.{most}
use Rattle.tabled_painting.specs.Viewed.{viewed}
use Rattle.tabled_painting.specs.declared.table_lines.TableLines.{TableLines}
use Rattle.tabled_rooms.proofs.OpenLemmas.{top_row, above_open}
use Rattle.tabled_painting.specs.declared.room.Room.{Room}
use Rattle.tabled_painting.specs.Painted.{Painted}
use Rattle.tabled_painting.specs.PaintedTable.{Cells, painted_cell, painted_mark, painted_marks, painted_side}
use Rattle.tabled_painting.specs.PaintedSpans.{painted_crossing, painted_edge, lines_above, room_line, room_wide, spanned_piece, crossed_piece, spanned_across, spanned_cells}
use Rattle.tabled_painting.specs.RoomLines.{room_shown, begun_piece, crossed_by, IsRoomAt, AreRooms, AreOpen, AreBegun, AreSpans, ShowTheSame}
use Rattle.tabled_painting.proofs.FrameLemmas.{by_test}

-- ---- a piece as it is painted

-- a crossing and an edge in a row
marks_both : (view : Look) (xs ys : List Place) → painted_marks (map (mark_at view) (xs ++ ys)) ≡ painted_marks (map (mark_at view) xs) ++ painted_marks (map (mark_at view) ys)
marks_both view xs ys = ap painted_marks (map-append (mark_at view) xs ys) ∙ flat_map-append painted_mark (map (mark_at view) xs) (map (mark_at view) ys)

piece_marks : (view : Look) (r c : ℕ) → painted_marks (map (mark_at view) (piece_places view (LineOf.Horizontal r) c)) ≡ painted_crossing view r c ++ painted_edge view r c
piece_marks view r c = marks_both view (crossing_at view.vertical (Place.Cross r) c) (map (Place.Horizontal r c) (below (view.widths c)))

abbrev crossed_choice : Look → ℕ → ℕ → ℕ → Option Room → Bool → Bool → Painted
crossed_choice view r line c room own first =
    if own then painted_crossing view r c ++ painted_edge view r c else if first then painted_crossing view r c ++ room_shown room line else []

-- what it is: nothing, a crossing and an edge, or a crossing and what a room shows
module _ (view : Look) (r line c : ℕ) (kept : Host) (room : Option Room) where
  pub crossed_own : kept.row ≡ r → painted_marks (map (mark_at view) (piece_places view (LineOf.Horizontal r) c)) ≡ crossed_by view r line c kept room
  crossed_own own =
      let test : (kept.row == r) ≡ true = grind (arith, nat_tests) in
      piece_marks view r c ∙ ap (λ b. crossed_choice view r line c room b (kept.col == c)) (sym test)

  pub crossed_room : kept.row ≢ r → kept.col ≡ c → painted_marks (map (mark_at view) (crossing_places view (LineOf.Horizontal r) c)) ++ room_shown room line ≡ crossed_by view r line c kept room
  crossed_room above here =
      let own : (kept.row == r) ≡ false = grind (arith, nat_tests) in
      let first : (kept.col == c) ≡ true = grind (arith, nat_tests) in
      λ i. crossed_choice view r line c room (sym own i) (sym first i)

  pub crossed_not : kept.row ≢ r → kept.col ≢ c → [] ≡ crossed_by view r line c kept room
  crossed_not above other =
      let own : (kept.row == r) ≡ false = grind (arith, nat_tests) in
      let first : (kept.col == c) ≡ false = grind (arith, nat_tests) in
      λ i. crossed_choice view r line c room (sym own i) (sym first i)

-- rooms of which one was put anew that shows what it did
pub same_rooms : (rooms : List (Option Room)) → ShowTheSame rooms rooms
same_rooms rooms = record { count = refl; lines = λ c line none. refl }

pub same_then : (old middle new : List (Option Room)) → ShowTheSame old middle → ShowTheSame middle new → ShowTheSame old new
same_then old middle new p q = record { count = q.count ∙ p.count; lines = λ c line none. q.lines c line none ∙ p.lines c line none }

pub same_put : (rooms : List (Option Room)) (col : ℕ) (before room : Option Room) → col < length rooms → before ≡ slice_index_or rooms col before → ((line : ℕ) → room_shown room line ≡ room_shown before line)
    → ShowTheSame rooms (set rooms col room)
same_put rooms col before room within read same = record {
  count = length-set rooms col room;
  lines = λ c line none. elim (cases_eq c col) [
    | inl here ↦
        ap (λ n. room_shown (slice_index_or (set rooms col room) n none) line) here ∙ ap (λ r. room_shown r line) (get_or-set_same rooms col room none within)
        ∙ same line ∙ ap (λ r. room_shown r line) (read ∙ get_or_default rooms col before none within) ∙ ap (λ n. room_shown (slice_index_or rooms n none) line) (sym here)
    | inr other ↦ ap (λ r. room_shown r line) (get_or-set_other rooms col c room none other)
  ];
}

-- what a room shows that was read where others show the same
pub shown_in : (rooms others : List (Option Room)) (col line : ℕ) (room none : Option Room) → col < length others → room ≡ slice_index_or others col room → ShowTheSame rooms others
    → room_shown room line ≡ room_shown (slice_index_or rooms col none) line
shown_in rooms others col line room none within read same = ap (λ r. room_shown r line) (read ∙ get_or_default others col room none within) ∙ same.lines col line none

-- a room more, behind those that show what they should
pub put_last : (rooms : List (Option Room)) (n : ℕ) (room : Option Room) (cell : ℕ → ℕ → Painted) → n < length rooms → ((line : ℕ) → room_shown room line ≡ cell n line)
    → ((c line : ℕ) (none : Option Room) → c < n → room_shown (slice_index_or rooms c none) line ≡ cell c line)
    → (c line : ℕ) (none : Option Room) → c < n + 1 → room_shown (slice_index_or (set rooms n room) c none) line ≡ cell c line
put_last rooms n room cell within is before c line none inside = elim (cases_eq c n) [
  | inl here ↦ ap (λ k. room_shown (slice_index_or (set rooms n room) k none) line) here ∙ ap (λ r. room_shown r line) (get_or-set_same rooms n room none within) ∙ is line ∙ ap (λ k. cell k line) (sym here)
  | inr other ↦ ap (λ r. room_shown r line) (get_or-set_other rooms n c room none other) ∙ before c line none (omega (arith, inside, other))
]

-- ---- a piece is that of its host

module _ (view : Look) (columns rows : Counts) (cells : Cells) (shape : ℕ × ℕ) (r c line : ℕ) (kept : Host) (room : Option Room) (is : kept ≡ held columns rows shape (host columns rows r c)) where
  abbrev cell : Cell
  cell = host columns rows r c

  pub piece_is : (k : ℕ) → line ≡ lines_above view columns rows r + k → ((cell.1 == c) ≡ true → IsRoomAt view columns rows cells r c room)
      → begun_piece view r k line c (kept.col == c) room ≡ spanned_piece view columns rows cells r k c
  piece_is k there own =
      ap (λ (h : Host). if h.col == c then painted_side view r k c ++ room_shown room line else []) is
      ∙ by_test ◌≡◌ (cell.1 == c) _ _ _ _ (λ e. ap (λ l. painted_side view r k c ++ l) (own e line ∙ ap (room_line view columns rows cells cell) there)) (λ e. refl)

  pub crossed_is : line ≡ lines_above view columns rows r - 1 → ((cell.0 == r) ≡ false → (cell.1 == c) ≡ true → IsRoomAt view columns rows cells r c room)
      → crossed_by view r line c kept room ≡ crossed_piece view columns rows cells r c
  crossed_is there own =
      ap (λ (h : Host). crossed_choice view r line c room (h.row == r) (h.col == c)) is
      ∙ by_test ◌≡◌ (cell.0 == r) _ _ _ _ (λ e. refl)
      (λ e. by_test ◌≡◌ (cell.1 == c) _ _ _ _ (λ f. ap (λ l. painted_crossing view r c ++ l) (own e f line ∙ ap (room_line view columns rows cells cell) there)) (λ f. refl))

-- ---- a line over which nothing reaches is that of a table without spans

flat_marks : (view : Look) (f : ℕ → List Place) (ns : List ℕ) → painted_marks (map (mark_at view) (flat_map f ns)) ≡ flat_map (λ n. painted_marks (map (mark_at view) (f n))) ns
flat_marks view f [] = refl
flat_marks view f (n ∷ ns) = marks_both view (f n) (flat_map f ns) ∙ ap (λ rest. painted_marks (map (mark_at view) (f n)) ++ rest) (flat_marks view f ns)

module _ (view : Look) (columns rows : Counts) (cells : Cells) (r : ℕ) where
  pub across_own : is_empty view.shape ≡ false → r ≤ view.shape.0 → ((c : ℕ) → c < view.shape.1 → (host columns rows r c).0 ≡ r)
      → painted_marks (marks_along view (LineOf.Horizontal r)) ≡ spanned_across view columns rows cells r
  unfolding all_places places_before
  across_own any within own =
      let line = LineOf.Horizontal r in
      ap painted_marks (marks_are view line (horizontal_there view.shape r any within))
      ∙ marks_both view (places_before view line view.shape.1) (crossing_places view line view.shape.1)
      ∙ ap (λ l. l ++ painted_crossing view r view.shape.1)
      (flat_marks view (piece_places view line) (below view.shape.1)
      ∙ flat_map_same (λ c. painted_marks (map (mark_at view) (piece_places view line c))) (crossed_piece view columns rows cells r) view.shape.1
      (λ c inside. piece_marks view r c ∙ own_piece c (own c inside)))
    where
      own_piece : (c : ℕ) → (host columns rows r c).0 ≡ r → painted_crossing view r c ++ painted_edge view r c ≡ crossed_piece view columns rows cells r c
      own_piece c is =
          let test : ((host columns rows r c).0 == r) ≡ true = grind (arith, nat_tests) in
          ap (λ b. if b then painted_crossing view r c ++ painted_edge view r c else
          if (host columns rows r c).1 == c then painted_crossing view r c ++ room_line view columns rows cells (host columns rows r c) (lines_above view columns rows r - 1) else []) (sym test)

-- ---- rooms from row to row

module _ (view : Look) (columns rows : Counts) (cells : Cells) where
  -- above the first row nothing is shown
  pub none_open : (kept : List (Option Room)) → AreOpen view columns rows cells 0 kept
  none_open kept c _ within above = absurd (let own = top_row columns rows c in let yes : ((host columns rows 0 c).0 == 0) ≡ true = grind (arith, nat_tests) in let no : true ≡ false = sym yes ∙ above in cc)

  -- what is shown in a row stays open below it
  pub still_open : (r : ℕ) (kept : List (Option Room)) → AreRooms view columns rows cells r kept → AreOpen view columns rows cells (r + 1) kept
  still_open r kept are = subst (λ n. AreOpen view columns rows cells n kept) (sym (add-one r)) (λ c none within above first line.
      let same = above_open columns rows r c above in
      are c none within (ap (λ (shown : Cell). shown.1 == c) (sym same) ∙ first) line ∙ ap (λ shown. room_line view columns rows cells shown line) (sym same))

  module _ (r : ℕ) where
    pub begun_none : (kept : List (Option Room)) → AreOpen view columns rows cells r kept → AreBegun view columns rows cells r 0 kept
    begun_none kept are c none within first later = are c none within (later (omega arith)) first

    pub begun_all : (n : ℕ) (kept : List (Option Room)) → length kept ≤ n → AreBegun view columns rows cells r n kept → AreRooms view columns rows cells r kept
    begun_all n kept all are c none within first = are c none within first (λ past. absurd (omega arith))

    -- one column more: the room that begins there, if one does
    pub begun_more : (n : ℕ) (old new : List (Option Room)) → length new ≡ length old → n < length old
        → (((host columns rows r n).0 == r) ≡ true → ((host columns rows r n).1 == n) ≡ true → (none : Option Room) → IsRoomAt view columns rows cells r n (slice_index_or new n none))
        → ((c : ℕ) (none : Option Room) → (((host columns rows r n).0 == r) && ((host columns rows r n).1 == n) && (c == n)) ≡ false → slice_index_or new c none ≡ slice_index_or old c none)
        → AreBegun view columns rows cells r n old → AreBegun view columns rows cells r (n + 1) new
    begun_more n old new long inside own others are c none within first later = elim (cases_eq c n) [
      | inl here ↦ subst (λ m. IsRoomAt view columns rows cells r m (slice_index_or new m none)) (sym here) (at_own ((host columns rows r n).0 == r) refl (subst (λ m. ((host columns rows r m).1 == m) ≡ true) here first))
      | inr other ↦
          let apart : (c == n) ≡ false = grind (arith, nat_tests) in
          λ line. ap (λ room. room_shown room line) (others c none ((λ i. ((host columns rows r n).0 == r) && ((host columns rows r n).1 == n) && apart i) ∙ never (((host columns rows r n).0 == r) && ((host columns rows r n).1 == n))))
          ∙ are c none (omega (arith, within, long)) first (λ past. later (omega arith)) line
    ]
      where
        never : (b : Bool) → b && false ≡ false
        never true = refl
        never false = refl

        at_own : (b : Bool) → ((host columns rows r n).0 == r) ≡ b → ((host columns rows r n).1 == n) ≡ true → IsRoomAt view columns rows cells r n (slice_index_or new n none)
        at_own true e f = own e f none
        at_own false e f = λ line.
            ap (λ room. room_shown room line) (others n none (λ i. e i && ((host columns rows r n).1 == n) && (n == n)))
            ∙ are n none inside f (λ past. e) line

  -- rooms that show the same
  pub rooms_same : (r : ℕ) (old new : List (Option Room)) → ShowTheSame old new → AreRooms view columns rows cells r old → AreRooms view columns rows cells r new
  rooms_same r old new same are c none within first line = same.lines c line none ∙ are c none (omega (arith, within, same.count)) first line

  pub open_same : (r : ℕ) (old new : List (Option Room)) → ShowTheSame old new → AreOpen view columns rows cells r old → AreOpen view columns rows cells r new
  open_same r old new same are c none within above first line = same.lines c line none ∙ are c none (omega (arith, within, same.count)) above first line

-- ---- the line at which a row begins

pub first_at : (firsts : List ℕ) (rows r found first : ℕ) → found ≡ slice_index_or firsts r found → length firsts ≡ rows + 1 → r ≤ rows → slice_index firsts r ≡ first → found ≡ first
first_at firsts rows r found first is count within at = is ∙ get_or_default_zero firsts r found (omega (arith, count, within)) ∙ at

-- a line of text of a row, by its number
pub line_at : (lines : TableLines) (firsts : List ℕ) (sides : List Bool) → AreSpans lines firsts sides → (r k line : ℕ) → r < lines.frame.shape.0 → k < (viewed lines.frame).heights r
    → line ≡ min (slice_index firsts r + k) most → line ≡ first_line (viewed lines.frame).heights (viewed lines.frame).horizontal r + k
line_at lines firsts sides are r k line row within is =
    let view = viewed lines.frame in
    omega (arith, is, are.are_firsts r (omega (arith, row)), line_within view.heights view.horizontal r lines.frame.shape.0 row, are.are_firsts lines.frame.shape.0 (omega arith), within, are.high_within)

-- how high a room is, from its first line to the end of its last row
pub high_is : (lines : TableLines) (firsts : List ℕ) (sides : List Bool) → AreSpans lines firsts sides → (r bottom last high end found : ℕ) → r < lines.frame.shape.0 → bottom ≤ lines.frame.shape.0
    → last ≡ bottom - 1 → high ≡ (viewed lines.frame).heights last → end ≡ min (slice_index firsts last + high) most → found ≡ end - slice_index firsts r
    → found ≡ room_height (viewed lines.frame).heights (viewed lines.frame).horizontal r bottom
high_is lines firsts sides are r bottom last high end found row within is tall sum high_found =
    let view = viewed lines.frame in
    let rows = lines.frame.shape.0 in
    let lasting = are.are_firsts last (omega (arith, is, within)) in
    let past = line_within view.heights view.horizontal last rows (omega (arith, is, within, row)) in
    let whole = are.are_firsts rows (omega arith) in
    let ends : end ≡ first_line view.heights view.horizontal last + view.heights last = omega (arith, sum, lasting, tall, past, whole, are.high_within) in
    high_found ∙ (λ i. ends i - are.are_firsts r (omega (arith, row)) i) ∙ ap (λ n. first_line view.heights view.horizontal n + view.heights n - first_line view.heights view.horizontal r) is

-- how wide the room is that begins in a column
pub wide_within : (lines : TableLines) (firsts : List ℕ) (sides : List Bool) → AreSpans lines firsts sides → (hosts : ℕ → Cell) (first : ℕ)
    → min (room_width (viewed lines.frame).widths (λ c. slice_index_or sides c false) hosts lines.frame.shape.1 first) most ≡ room_width (viewed lines.frame).widths (λ c. slice_index_or sides c false) hosts lines.frame.shape.1 first
wide_within lines firsts sides are hosts first =
    omega (arith, room_within (viewed lines.frame).widths (λ c. slice_index_or sides c false) hosts lines.frame.shape.1 first, are.wide_within)

-- ---- how wide a room is, by the hosts of its first row

pub wide_is : (view : Look) (columns rows : Counts) (shape : ℕ × ℕ) (r first wide : ℕ) (hosts : List Host) (none : Host) (widths : ℕ → ℕ) (drawn : ℕ → Bool)
    → wide ≡ room_width widths drawn (λ c. cell_of (slice_index_or hosts c none)) (length hosts) first → length hosts ≡ view.shape.1 → AreHosts columns rows shape r hosts
    → widths ≡ view.widths → ((c : ℕ) → drawn c ≡ view.vertical c) → wide ≡ room_wide view columns rows r first
wide_is view columns rows shape r first wide hosts none widths drawn found count are wides sides =
    found ∙ width_same widths drawn (λ c. cell_of (slice_index_or hosts c none)) (host columns rows r) (length hosts) first (λ c within. ap cell_of (are c none within))
    ∙ (λ i. room_width (wides i) (λ c. sides c i) (host columns rows r) (count i) first)

-- ---- the room of a cell that is shown from its own place on

pub room_is : (view : Look) (columns rows : Counts) (settings : CellSettings) (colors : Option (Live Texts)) (table : Table) (r c wide line : ℕ) (text : List ℕ) (kept : Host)
    → kept ≡ held columns rows view.shape (host columns rows r c) → ((host columns rows r c).0 == r) ≡ true → ((host columns rows r c).1 == c) ≡ true
    → wide ≡ room_wide view columns rows r c → text ≡ slice_index_or (slice_index_or table r []) c []
    → painted_cell settings colors wide (room_height view.heights view.horizontal kept.row kept.bottom) text kept.row kept.col (line - first_line view.heights view.horizontal kept.row)
    ≡ room_line view columns rows (spanned_cells view columns rows settings colors table) (host columns rows r c) line
room_is view columns rows settings colors table r c wide line text kept is own first width said =
    let in_row : (host columns rows r c).0 ≡ r = eqb-true (host columns rows r c).0 r own in
    let in_column : (host columns rows r c).1 ≡ c = eqb-true (host columns rows r c).1 c first in
    λ i. painted_cell settings colors ((width ∙ (λ j. room_wide view columns rows (sym in_row j) (sym in_column j))) i) (room_height view.heights view.horizontal (is i).row (is i).bottom)
    ((said ∙ (λ j. slice_index_or (slice_index_or table (sym in_row j) []) (sym in_column j) [])) i) (is i).row (is i).col (line - first_line view.heights view.horizontal (is i).row)

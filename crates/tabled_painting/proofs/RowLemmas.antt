-- A row by the rooms that stand in its columns.
use Rattle.std.proofs.Common.{◌≡◌, ℕ, ◌+◌, ◌<◌, ◌≤◌, ◌==◌, min, Bool, true, if◌then◌else◌, [], ◌∷◌, ◌++◌, Option, List, map, length, subst, sym, ap, ◌∙◌, arith}
use Rattle.std.specs.Prelude.{slice_index, slice_index_or}
use Rattle.std.proofs.lemmas.Bool.Decides.{nat_tests}
use Rattle.tabled_object.specs.Entities.{below}
use Rattle.tabled_printing.specs.Picture.{Look}
use Rattle.tabled_rooms.specs.Holding.{AreHosts}
use Rattle.tabled_rooms.specs.declared.host.Host.{Host}
use Rattle.tabled_rooms.proofs.SizeLemmas.{flat_map_same, map_same}
use Rattle.tabled_painting.specs.Pages.{PaintsLines, most}
use Rattle.tabled_painting.specs.PaintedTable.{Cells, painted_between, painted_side}
use Rattle.tabled_painting.specs.PaintedSpans.{spanned_between, spanned_piece, spanned_row}
use Rattle.tabled_painting.specs.RoomLines.{AreRooms, AreRowCells, AreSpans, ShowTheSame, begins, begun_piece, columns_of, room_shown, rooms_between, rooms_row, rows_of}
use Rattle.tabled_painting.specs.Rows.{row_cell, row_painted}
use Rattle.tabled_painting.specs.Viewed.{viewed}
use Rattle.tabled_painting.specs.declared.page.Page.{Page}
use Rattle.tabled_painting.specs.declared.room.Room.{Room}
use Rattle.tabled_painting.specs.declared.table_lines.TableLines.{TableLines}
use Rattle.tabled_painting.proofs.SpannedLemmas.{line_at, piece_is}

-- a room that shows in a line what another one does
pub piece_same : (view : Look) (r k line c : ℕ) (begun : Bool) (room other : Option Room) → room_shown room line ≡ room_shown other line → begun_piece view r k line c begun room ≡ begun_piece view r k line c begun other
piece_same view r k line c begun room other same = ap (λ shown. if begun then painted_side view r k c ++ shown else []) same

-- so it is with a whole line of rooms
pub between_same : (view : Look) (r k line other : ℕ) (hosts : List Host) (old new : List (Option Room)) (none : Option Room) → line ≡ other → ShowTheSame old new
    → rooms_between view r k line hosts new none ≡ rooms_between view r k other hosts old none
between_same view r k line other hosts old new none is same =
    ap (λ at. rooms_between view r k at hosts new none) is
    ∙ ap (λ parts. parts ++ painted_side view r k view.shape.1)
    (flat_map_same (λ c. begun_piece view r k other c (begins hosts c) (slice_index_or new c none)) (λ c. begun_piece view r k other c (begins hosts c) (slice_index_or old c none)) view.shape.1
    (λ c within. piece_same view r k other c (begins hosts c) (slice_index_or new c none) (slice_index_or old c none) (same.lines c other none)))

-- where no hosts are kept each cell begins in its own column
pub cells_row : (lines : TableLines) (r : ℕ) (texts : List (List ℕ)) (rooms : List (Option Room)) (none : Option Room) → length texts ≡ lines.frame.shape.1 → AreRowCells lines r texts rooms
    → slice_index lines.frame.dims.now.heights.items r ≤ most → rooms_row (viewed lines.frame) r 0 [] rooms none ≡ row_painted lines r texts
cells_row lines r texts rooms none count are few =
    let view = viewed lines.frame in
    map_same (λ k. rooms_between view r k (min (0 + k) most) [] rooms none) (λ k. painted_between view r k (λ c. row_cell lines r c (slice_index_or texts c []) k)) (view.heights r)
    (λ k above. let line : min (0 + k) most ≡ k = omega (arith, above, few) in
    ap (λ parts. parts ++ painted_side view r k view.shape.1)
    (flat_map_same (λ c. begun_piece view r k (min (0 + k) most) c (begins [] c) (slice_index_or rooms c none)) (λ c. painted_side view r k c ++ row_cell lines r c (slice_index_or texts c []) k) view.shape.1
    (λ c within. let own : (c == c) ≡ true = grind (arith, nat_tests) in
    (λ i. if own i then painted_side view r k c ++ room_shown (slice_index_or rooms c none) (line i) else [])
    ∙ ap (λ part. painted_side view r k c ++ part) (are c k none (omega (arith, within, count))))))

-- the rooms of a row, by its hosts
pub rooms_are : (lines : TableLines) (firsts : List ℕ) (sides : List Bool) (cells : Cells) (r first : ℕ) (hosts : List Host) (rooms : List (Option Room)) (none : Option Room) → AreSpans lines firsts sides
    → r < lines.frame.shape.0 → first ≡ slice_index firsts r → length hosts ≡ lines.frame.shape.1 → length rooms ≡ lines.frame.shape.1 → AreHosts (columns_of lines) (rows_of lines) lines.frame.shape r hosts
    → AreRooms (viewed lines.frame) (columns_of lines) (rows_of lines) cells r rooms
    → rooms_row (viewed lines.frame) r first hosts rooms none ≡ spanned_row (viewed lines.frame) (columns_of lines) (rows_of lines) cells r
rooms_are lines firsts sides cells r first hosts rooms none spans within is counted count are shown =
    let view = viewed lines.frame in
    let columns = columns_of lines in
    let rows = rows_of lines in
    map_same (λ k. rooms_between view r k (min (first + k) most) hosts rooms none) (spanned_between view columns rows cells r) (view.heights r)
    (λ k above. let there = line_at lines firsts sides spans r k (min (first + k) most) within above (ap (λ n. min (n + k) most) is) in
    ap (λ parts. parts ++ painted_side view r k view.shape.1)
    (flat_map_same (λ c. begun_piece view r k (min (first + k) most) c (begins hosts c) (slice_index_or rooms c none)) (spanned_piece view columns rows cells r k) view.shape.1
    (λ c inside. piece_is view columns rows cells lines.frame.shape r c (min (first + k) most) (slice_index_or hosts c (record { row = 0; col = c; bottom = 0; right = 0 })) (slice_index_or rooms c none)
    (are c (record { row = 0; col = c; bottom = 0; right = 0 }) (omega (arith, inside, counted))) k there (shown c none (omega (arith, inside, count))))))

-- a row that is one line high
pub one_line : {O : Type 0} (gains : List ℕ → O → O → Type 0) (lines : TableLines) (r : ℕ) (texts : List (List ℕ)) (old new : Page O) → slice_index lines.frame.dims.now.heights.items r ≡ 1
    → PaintsLines gains (painted_between (viewed lines.frame) r 0 (λ c. row_cell lines r c (slice_index_or texts c []) 0) ∷ []) old new → PaintsLines gains (row_painted lines r texts) old new
one_line gains lines r texts old new low =
    subst (λ painted. PaintsLines gains painted old new) (ap (λ n. map (λ k. painted_between (viewed lines.frame) r k (λ c. row_cell lines r c (slice_index_or texts c []) k)) (below n)) (sym low))

-- A column more: a room begins there, or none does.
use Rattle.std.proofs.Common.{◌≡◌, ℕ, Bool, min, ◌==◌, ◌&&◌, ◌<◌, false, [], length, slice_index_or, sym, ap, ◌∙◌, arith}
use Rattle.std.specs.Prelude.{slice_index}
use Rattle.tabled_rooms.specs.Hosts.{host}
use Rattle.tabled_rooms.specs.Holding.{held}
use Rattle.tabled_rooms.specs.declared.host.Host.{Host}
use Rattle.tabled_rooms.proofs.OpenLemmas.{begins_by}
use Rattle.tabled_painting.specs.RoomLines.{columns_of, room_cells, rows_of, nobody}
use Rattle.tabled_painting.specs.Pages.{most}
use Rattle.tabled_rooms.specs.Hosts.{Cell}
use Rattle.tabled_rooms.specs.Holding.{cell_of}
use Rattle.tabled_rooms.specs.Rooms.{room_width}
use Rattle.tabled_painting.specs.Viewed.{viewed}
use Rattle.tabled_painting.proofs.FrameLemmas.{shown_at}
use Rattle.tabled_painting.proofs.SpannedLemmas.{begun_more, room_is, wide_is, wide_within}
use Rattle.tabled_painting.proofs.spanned_lines.SpannedLines.begin_rooms.Goals as goal

pub begin_room-requires-clause-row : goal.begin_room-requires-clause-row
begin_room-requires-clause-row g c =
    let lines = c.args.self.now.lines.now in
    let n = c.loop-col.col in
    let inside : n < length c.args.hosts.now = omega (arith, c.requires.hosts, c.requires.texts, c.loop-col-test.true) in
    let least = begins_by (columns_of lines) (rows_of lines) c.args.row n in
    let is = ap (λ (h : Host). h.row) (c.requires.are n nobody inside) in
    omega (arith, is, least, c.requires.row)

pub loop-col-preserved : goal.loop-col-preserved
loop-col-preserved g c =
    let lines = c.args.self.now.lines.now in
    let view = viewed lines.frame in
    let columns = columns_of lines in
    let rows = rows_of lines in
    let r = c.args.row in
    let n = c.loop-col.col in
    let hosts = c.args.hosts.now in
    let kept = slice_index_or hosts n nobody in
    let inside : n < length hosts = omega (arith, c.requires.hosts, c.requires.texts, c.loop-col-test.true) in
    let in_rooms : n < length c.loop-col.rooms = omega (arith, c.requires.rooms, c.requires.texts, c.loop-col-test.true, c.loop-col.invariant.count) in
    let in_wides : n < length c.args.wides.now = omega (arith, c.requires.wides, c.requires.texts, c.loop-col-test.true) in
    let is : kept ≡ held columns rows lines.frame.shape (host columns rows r n) = c.requires.are n nobody inside in
    let own_widths = slice_index c.as_slice-widths.result.now in
    let drawn : ℕ → Bool = λ k. slice_index_or c.args.self.now.sides.now k false in
    let own_hosts : ℕ → Cell = λ k. cell_of (slice_index_or hosts k nobody) in
    let found : slice_index c.room_widths.new.wides n ≡ room_width own_widths drawn own_hosts (length hosts) n =
    c.room_widths.ensures.wide n nobody in_wides
    ∙ (λ i. min (room_width (ap slice_index c.as_slice-widths.ensures.value i) drawn own_hosts (c.requires.hosts i) n) most)
    ∙ wide_within lines c.args.self.now.firsts.now c.args.self.now.sides.now c.requires.spans own_hosts n
    ∙ (λ i. room_width (ap slice_index (sym c.as_slice-widths.ensures.value) i) drawn own_hosts (sym c.requires.hosts i) n) in
    let wide = wide_is view columns rows lines.frame.shape r n (slice_index c.room_widths.new.wides n) hosts nobody own_widths drawn found c.requires.hosts c.requires.are
    (ap slice_index c.as_slice-widths.ensures.value) c.requires.spans.are_sides in
    record {
      count = c.begin_room.ensures.count ∙ c.loop-col.invariant.count;
      begun = λ table there opened.
          let said = c.as_str.ensures ∙ shown_at g.T.AsStr.text c.args.texts.now n c.index-texts-col.result [] c.loop-col-test.true c.index-texts-col.is ∙ ap (λ row. slice_index_or row n []) (sym there) in
          begun_more view columns rows (room_cells lines table) r n c.loop-col.rooms c.begin_room.new.rooms c.begin_room.ensures.count in_rooms
          (λ own first room line. c.begin_room.ensures.begun ((λ i. ((is i).row == r) && ((is i).col == n)) ∙ (λ i. own i && first i)) room line
          ∙ room_is view columns rows lines.frame.cfg.now.settings.cells lines.colors.now table r n (slice_index c.room_widths.new.wides n) line c.as_str.result.now kept is own first wide said)
          (λ k room apart. c.begin_room.ensures.others k room ((λ i. ((is i).row == r) && ((is i).col == n) && (k == n)) ∙ apart))
          (c.loop-col.invariant.begun table there opened);
    }

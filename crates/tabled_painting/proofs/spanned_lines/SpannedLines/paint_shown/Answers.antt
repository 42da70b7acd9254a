-- The row as it is without spans, or its rooms.
use Rattle.std.proofs.Common.{◌∙◌, List, None, refl, sym, ap, subst, arith, length}
use Rattle.tabled_painting.specs.Painted.{Painted}
use Rattle.tabled_painting.specs.Pages.{PaintsLines}
use Rattle.tabled_painting.specs.RoomLines.{columns_of, room_cells, rows_of}
use Rattle.tabled_painting.specs.Rows.{row_painted}
use Rattle.tabled_painting.specs.Viewed.{viewed}
use Rattle.tabled_painting.proofs.AloneLemmas.{all_rooms, alone_row, few_rooms, nothing_open, row_alone}
use Rattle.tabled_painting.proofs.RowLemmas.{rooms_are}
use Rattle.tabled_painting.proofs.SpannedLemmas.{rooms_same, still_open}
use Rattle.tabled_painting.proofs.spanned_lines.SpannedLines.paint_shown.Goals as goal

pub returns-then-all_stand_alone-clause-painted : goal.returns-then-all_stand_alone-clause-painted
returns-then-all_stand_alone-clause-painted g c = λ table there opened.
    let spanned = c.args.self.now in
    let lines = spanned.lines.now in
    let alone = row_alone lines spanned.firsts.now spanned.sides.now c.args.row c.args.hosts.now c.requires.keeps c.requires.are c.requires.row (c.all_stand_alone.ensures.all c.if-all_stand_alone.true) in
    subst (λ (painted : List Painted). PaintsLines g.O.Output.gains painted c.args.page.now c.paint_row.new.page)
    (ap (row_painted lines c.args.row) (sym there)
    ∙ alone_row (viewed lines.frame) (columns_of lines) (rows_of lines) lines.frame.cfg.now.settings.cells lines.colors.now table c.args.row alone) c.in_ok-paint_row.ensures.painted

pub returns-then-all_stand_alone-clause-opened : goal.returns-then-all_stand_alone-clause-opened
returns-then-all_stand_alone-clause-opened g c = λ table there opened more.
    let spanned = c.args.self.now in
    let lines = spanned.lines.now in
    let alone = row_alone lines spanned.firsts.now spanned.sides.now c.args.row c.args.hosts.now c.requires.keeps c.requires.are c.requires.row (c.all_stand_alone.ensures.all c.if-all_stand_alone.true) in
    nothing_open (columns_of lines) (rows_of lines) lines.frame.shape c.args.row alone (λ a b. omega arith) (λ a b. omega arith)
    (viewed lines.frame) (room_cells lines table) c.paint_row.new.rooms (let few = few_rooms lines (length c.args.hosts.now) (length c.args.rooms.now) c.requires.rooms in omega (arith, few, c.in_ok-paint_row.ensures.count)) more

pub returns-clause-painted : goal.returns-clause-painted
returns-clause-painted g c = λ table there opened.
    let spanned = c.args.self.now in
    let lines = spanned.lines.now in
    let some = c.all_stand_alone.ensures.some c.if-all_stand_alone.false in
    subst (λ (painted : List Painted). PaintsLines g.O.Output.gains painted c.args.page.now c.paint_rooms.new.page)
    (rooms_are lines spanned.firsts.now spanned.sides.now (room_cells lines table) c.args.row _ c.args.hosts.now c.begin_rooms.new.rooms None (c.requires.keeps.some some) c.requires.row refl (c.requires.keeps.each some) (c.begin_rooms.ensures.rooms_count ∙ all_rooms lines (length c.args.hosts.now) (length c.args.rooms.now) c.requires.rooms some)
    c.requires.are (c.begin_rooms.ensures.rooms table there opened)) (c.in_ok-paint_rooms.ensures.painted None)

pub returns-clause-opened : goal.returns-clause-opened
returns-clause-opened g c = λ table there opened more.
    let lines = c.args.self.now.lines.now in
    still_open (viewed lines.frame) (columns_of lines) (rows_of lines) (room_cells lines table) c.args.row c.paint_rooms.new.rooms
    (rooms_same (viewed lines.frame) (columns_of lines) (rows_of lines) (room_cells lines table) c.args.row c.begin_rooms.new.rooms c.paint_rooms.new.rooms c.in_ok-paint_rooms.ensures.same (c.begin_rooms.ensures.rooms table there opened))

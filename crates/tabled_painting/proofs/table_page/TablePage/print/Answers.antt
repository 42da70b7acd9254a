-- The lines above, the table between its sides, and the lines below.
use Rattle.std.proofs.Common.{◌++◌, List, replicate, subst, ◌∙◌}
use Rattle.tabled_painting.specs.Margin.{side_of, strip}
use Rattle.tabled_painting.specs.Painted.{Painted}
use Rattle.tabled_painting.specs.Pages.{counted_sides, joined}
use Rattle.tabled_painting.specs.RoomLines.{columns_of, room_cells, rows_of}
use Rattle.tabled_painting.specs.TablePages.{lines_between, text_of_page}
use Rattle.tabled_cells.specs.TextsBy.{texts_by}
use Rattle.tabled_painting.specs.Viewed.{viewed}
use Rattle.tabled_painting.proofs.PageLemmas.{joined_first, whole_both}
use Rattle.tabled_painting.proofs.MarginLemmas.{in_its_margin, lines_count}
use Rattle.tabled_painting.proofs.table_page.TablePage.print.Goals as goal

pub returns : goal.returns
returns g c =
    let gains = g.O.Output.gains in
    let both = g.met.O.Output.gains_both in
    let page = c.args.self in
    let frame = page.lines.frame in
    let table = texts_by g.T.AsStr.text c.args.rows.now in
    let lines = lines_between page.lines table in
    let above : List Painted = replicate page.margin.top.size (strip (side_of page.margin.top) page.long) in
    let between : List Painted = counted_sides (side_of page.margin.left) (side_of page.margin.right) page.high 0 lines in
    let below : List Painted = replicate page.margin.bottom.size (strip (side_of page.margin.bottom) page.long) in
    let whole = whole_both gains both (above ++ between) below _ _ _ (whole_both gains both above between _ _ _ c.in_ok-paint_strips.ensures c.in_ok-paint.ensures.whole) c.in_ok-paint_strips-2.ensures in
    let is = in_its_margin (viewed frame) page.margin frame.cfg.now.settings.margin lines page.high page.long page.is_margin frame.has_places page.longs
    (page.highs lines (lines_count (viewed frame) (columns_of page.lines) (rows_of page.lines) (room_cells page.lines table) frame.has_places)) in
    let start = c.new-painter.ensures in
    subst (λ out. gains (text_of_page page table) out c.paint_strips-2.new.painter.out) start.out
    (subst (λ bytes. gains bytes c.new-painter.result.out c.paint_strips-2.new.painter.out)
    ((λ i. joined (start.with_colors i) (start.begun i) (is i)) ∙ joined_first frame.with_colors _) whole.text)

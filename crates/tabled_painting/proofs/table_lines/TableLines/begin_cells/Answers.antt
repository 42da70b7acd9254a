-- A cell more.
use Rattle.std.proofs.Common.{◌≡◌, ◌<◌, ◌-◌, [], map, length, slice_index_or, ap, ◌∙◌, arith}
use Rattle.std.proofs.lemmas.List.{length-set}
use Rattle.tabled_painting.specs.Rows.{line_of, row_cell}
use Rattle.tabled_painting.proofs.FrameLemmas.{shown_at}
use Rattle.tabled_painting.proofs.SpannedLemmas.{put_last}
use Rattle.tabled_painting.proofs.table_lines.TableLines.begin_cells.Goals as goal

pub loop-col-preserved : goal.loop-col-preserved
loop-col-preserved g c =
    let lines = c.args.self.now in
    let n = c.loop-col.col in
    let text = c.as_str.ensures ∙ shown_at g.T.AsStr.text c.args.texts.now n c.index-texts-col.result [] c.loop-col-test.true c.index-texts-col.is in
    let inside : n < length c.loop-col.rooms = omega (arith, c.requires, c.loop-col.invariant.count, c.loop-col-test.true) in
    record {
      count = length-set c.loop-col.rooms n _ ∙ c.loop-col.invariant.count;
      cells = put_last c.loop-col.rooms n _ (λ k line. row_cell lines c.args.row k (slice_index_or (map g.T.AsStr.text c.args.texts.now) k []) line) inside
          (λ line. let same : line - 0 ≡ line = omega arith in ap (λ at. line_of at c.own_cell-cell.result) same ∙ c.own_cell-cell.ensures line
          ∙ (λ i. row_cell lines (c.new.ensures.row i) (c.new.ensures.col i) (text i) line)) c.loop-col.invariant.cells;
    }

-- One more row: its horizontal line and its lines of text.
use Rattle.std.proofs.Common.{◌≡◌, ℕ, ◌++◌, List, [], length, map, ap, sym, subst, ◌∙◌, string_bytes, slice_index_or, arith}
use Rattle.std.specs.List.{flat_map}
use Rattle.std.proofs.lemmas.List.{length-map}
use Rattle.tabled_object.specs.Entities.{below}
use Rattle.tabled_printing.specs.Along.{is_empty}
use Rattle.tabled_printing.specs.Picture.{Look, line_if_drawn, row_lines}
use Rattle.tabled_width.specs.Texts.{Appends, texts}
use Rattle.tabled_printing.specs.Viewed.{frame_look}
use Rattle.tabled_config.proofs.TextLemmas.{ended, rows_more, rows_closed, written_both, appends_last, texts_at}
use Rattle.tabled_config.proofs.print.push_table.Goals as goal

pub push_row-requires-clause-cells : goal.push_row-requires-clause-cells
push_row-requires-clause-cells g c =
    let rows = c.args.rows.now in
    let there = texts_at rows c.loop-row.row c.index-rows-row.result c.deref.result.now c.loop-row-test.true c.index-rows-row.is c.deref.ensures.value in
    sym (length-map c.deref.result.now string_bytes) ∙ ap length (sym there)
    ∙ c.requires.cols c.loop-row.row [] (omega (arith, c.loop-row-test.true, length-map rows (λ row. map string_bytes row.items)))

pub loop-row-preserved : goal.loop-row-preserved
loop-row-preserved g c =
    let view : Look = frame_look g.D.Dimension.width_of g.D.Dimension.height_of c.args.frame.now in
    let rows = c.args.rows.now in
    let there = texts_at rows c.loop-row.row c.index-rows-row.result c.deref.result.now c.loop-row-test.true c.index-rows-row.is c.deref.ensures.value in
    let before : List ℕ = flat_map ended (flat_map (λ r. line_if_drawn view r ++ row_lines view r (slice_index_or (texts rows) r [])) (below c.loop-row.row)) in
    written_both _ _ _ _ _ _ _ _ c.loop-row.invariant c.in_ok-push_line.ensures c.in_ok-push_row.ensures
    (rows_more (line_if_drawn view) (λ r. row_lines view r (slice_index_or (texts rows) r [])) c.loop-row.row
    ∙ ap (λ row. before ++ (flat_map ended (line_if_drawn view c.loop-row.row) ++ flat_map ended (row_lines view c.loop-row.row row))) there)

pub returns : goal.returns
returns g c =
    let view : Look = frame_look g.D.Dimension.width_of g.D.Dimension.height_of c.args.frame.now in
    let rows = c.args.rows.now in
    let all : c.loop-row.row ≡ view.shape.0 = (let counted = c.requires.rows in omega (arith, c.loop-row-test.false, c.loop-row.auto.row-end, counted)) in
    appends_last c.push_line-2.result _ _ _ _ _ _ c.loop-row.invariant
    (rows_closed (is_empty view.shape) (λ r. line_if_drawn view r ++ row_lines view r (slice_index_or (texts rows) r []))
    (line_if_drawn view view.shape.0) c.loop-row.row view.shape.0 c.args.frame.now.has_places all)
    (subst (λ n. Appends c.push_line-2.result c.loop-row.text c.push_line-2.new.text (flat_map ended (line_if_drawn view n))) c.requires.rows c.push_line-2.ensures)

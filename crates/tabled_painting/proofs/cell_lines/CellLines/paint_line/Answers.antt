-- By where line n stands.
use Rattle.std.proofs.Common.{◌∙◌}
use Rattle.tabled_cells.specs.Shown.{shown}
use Rattle.tabled_painting.specs.CellLines.{coloring_of}
use Rattle.tabled_painting.proofs.CellLemmas.{aligned_line, same_line, upper_line, lower_line, text_line}
use Rattle.tabled_painting.proofs.cell_lines.CellLines.paint_line.Goals as goal

pub returns-then-n-above-clause-painted : goal.returns-then-n-above-clause-painted
returns-then-n-above-clause-painted g c =
    let cell = c.args.self.now in
    same_line g.O.Output.gains c.push_times.result _ _ _ _
    (upper_line cell.how (coloring_of cell.colors) cell.width cell.height (shown cell.lines) c.args.n c.lines_above-above.result c.len.result
    c.lines_above-above.ensures c.len.ensures _ c.as_ref.ensures.value c.if-n-above.true) c.push_times.ensures

pub returns-in_default-clause-painted : goal.returns-in_default-clause-painted
returns-in_default-clause-painted g c =
    let cell = c.args.self.now in
    same_line g.O.Output.gains c.push_times-in_default.result _ _ _ _
    (lower_line cell.how (coloring_of cell.colors) cell.width cell.height (shown cell.lines) c.args.n c.lines_above-above.result c.len.result
    c.lines_above-above.ensures c.len.ensures _ c.as_ref-in_default.ensures.value c.if-n-above.false c.in_default.ensures.there) c.push_times-in_default.ensures

pub returns-clause-painted : goal.returns-clause-painted
returns-clause-painted g c =
    let cell = c.args.self.now in
    same_line g.O.Output.gains c.paint_text.result _ _ _ _
    (text_line cell.how (coloring_of cell.colors) cell.width cell.height (shown cell.lines) c.args.n c.lines_above-above.result c.len.result
    c.lines_above-above.ensures c.len.ensures c.in-Some.line.now c.aligned-aligned.result c.if-n-above.false c.in-Some.ensures.there c.in-Some.ensures.is
    (aligned_line cell.how (coloring_of cell.colors) cell.width c.line.new.self.widest c.aligned-aligned.result (shown cell.lines) c.in-Some.line.now (λ together apart. c.in-Some.ensures.widest ∙ cell.widest together apart) c.aligned-aligned.ensures))
    c.paint_text.ensures

-- Five parts in turn.
use Rattle.tabled_painting.specs.CellLines.{coloring_of}
use Rattle.tabled_painting.proofs.CellLemmas.{line_of_parts}
use Rattle.tabled_painting.proofs.cell_lines.CellLines.paint_text.Goals as goal

pub returns : goal.returns
returns g c =
    line_of_parts g.O.Output.gains g.met.O.Output.gains_both c.args.self.now.how (coloring_of c.args.self.now.colors) c.args.self.now.width c.args.aligned c.args.line.now _ _ c.line_parts-parts.result
    c.args.painter.now c.push_times.new.self c.push_times-2.new.self c.push_str.new.self c.push_times-3.new.self c.push_times-4.new.self
    c.as_ref.ensures.value c.as_ref-2.ensures.value c.line_parts-parts.ensures
    c.in_ok-push_times.ensures c.in_ok-push_times-2.ensures c.in_ok-push_str.ensures c.in_ok-push_times-3.ensures c.in_ok-push_times-4.ensures

-- At the end all lines were cut off.
use Rattle.std.proofs.Common.{not, map, ap, ◌∙◌}
use Rattle.std.specs.List.{filter, list_all}
use Rattle.std.proofs.lemmas.Iterator.Consumers.{YieldsList-end}
use Rattle.std.proofs.lemmas.Iterator.Splits.{YieldsList-from_lines}
use Rattle.tabled_input.specs.Spaced.{cells_of_line, is_blank}
use Rattle.tabled_input.proofs.spacing.rows_of.Goals as goal

pub returns : goal.returns
returns c =
    let all = YieldsList-end (YieldsList-from_lines c.args.text.now (cc)) c.loop-line.yielded _ c.loop-line.yielded_by _ _ c.in-None.is c.next.ensures.steps in
    c.loop-line.invariant ∙ ap (λ lines. map (cells_of_line c.args.is_wide c.args.columns) (filter (λ line. not (list_all is_blank line)) lines)) all.0

-- At the end all lines were cut off.
use Rattle.std.proofs.Common.{◌==◌, not, length, map, ap, ◌∙◌}
use Rattle.std.specs.List.{filter}
use Rattle.std.proofs.lemmas.Iterator.Consumers.{YieldsList-end}
use Rattle.std.proofs.lemmas.Iterator.Splits.{YieldsList-from_lines}
use Rattle.tabled_input.specs.Lines.{cut_at, separated}
use Rattle.tabled_input.proofs.lines.separated.Goals as goal

pub returns : goal.returns
unfolding separated
returns c =
    let all = YieldsList-end (YieldsList-from_lines c.args.text.now (cc)) c.loop-line.yielded _ c.loop-line.yielded_by _ _ c.in-None.is c.next.ensures.steps in
    c.loop-line.invariant ∙ ap (λ lines. map (cut_at c.args.separator) (filter (λ line. not (length line == 0)) lines)) all.0

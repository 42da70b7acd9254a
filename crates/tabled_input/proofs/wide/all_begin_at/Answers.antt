-- At the end all lines were cut off.
use Rattle.std.proofs.Common.{not, ap, ◌∙◌}
use Rattle.std.specs.List.{filter, list_all}
use Rattle.std.proofs.lemmas.Iterator.Consumers.{YieldsList-end}
use Rattle.std.proofs.lemmas.Iterator.Splits.{YieldsList-from_lines}
use Rattle.tabled_input.specs.Spaced.{begin_at, is_blank}
use Rattle.tabled_input.proofs.wide.all_begin_at.Goals as goal

pub returns : goal.returns
returns c =
    let all = YieldsList-end (YieldsList-from_lines c.args.text.now (cc)) c.loop-line.yielded _ c.loop-line.yielded_by _ _ c.in-None.is c.next.ensures.steps in
    c.loop-line.invariant ∙ ap (λ lines. list_all (begin_at c.args.places.now) (filter (λ line. not (list_all is_blank line)) lines)) all.0

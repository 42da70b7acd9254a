use Rattle.std.proofs.Common.{ap, ◌∙◌}
use Rattle.tabled_grid.specs.Counted.{numbers_of, exchanged}
use Rattle.tabled_grid.proofs.CountedLemmas.{line_put}
use Rattle.tabled_grid.proofs.custom_lines.put_line.Goals as goal

pub returns-clause-counted : goal.returns-clause-counted
returns-clause-counted g c =
    let taken = c.of-taken.ensures ∙ ap (numbers_of g.L.CustomLine.draws) (c.as_ref.ensures.value ∙ c.in_ok-before.ensures.before) in
    line_put _ _ _ c.requires c.args.index c.args.line _ _ c.in_ok-before.ensures.ok c.in_ok-before.ensures.few
    (c.set.ensures ∙ c.exchange.ensures ∙ (λ i. exchanged (c.get.ensures i) (taken i) (c.of-put.ensures i)))

use Rattle.std.proofs.Common.{ap, ◌∙◌}
use Rattle.tabled_grid.specs.Counted.{numbers_of, exchanged}
use Rattle.tabled_grid.proofs.CountedLemmas.{line_taken}
use Rattle.tabled_grid.proofs.custom_lines.take_line.Goals as goal

pub returns-clause-counted : goal.returns-clause-counted
returns-clause-counted g c =
    let taken = c.of-taken.ensures ∙ ap (numbers_of g.L.CustomLine.draws) (c.as_ref.ensures.value ∙ c.remove-before.ensures.before) in
    line_taken _ _ _ c.requires c.args.index _ _ c.remove-before.ensures.removed c.remove-before.ensures.few
    (c.set.ensures ∙ c.exchange.ensures ∙ (λ i. exchanged (c.get.ensures i) (taken i) (c.none.ensures i)))

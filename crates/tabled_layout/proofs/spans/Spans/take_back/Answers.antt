use Rattle.std.proofs.Common.{ap, sym, ◌∙◌}
use Rattle.tabled_layout.specs.TakenBack.{taken_back}
use Rattle.tabled_layout.proofs.TakenBackLemmas.{taken_back-last}
use Rattle.tabled_layout.proofs.spans.Spans.take_back.Goals as goal

pub loop-cell-preserved : goal.loop-cell-preserved
loop-cell-preserved c =
    ap (λ m. taken_back m c.pop.new.self.items) c.put_back.ensures
    ∙ sym (taken_back-last c.loop-cell.self c.pop.new.self.items (c.in-Some.cell, c.in-Some.noted))
    ∙ ap (taken_back c.loop-cell.self) (sym c.in-Some.ensures.items)
    ∙ c.loop-cell.invariant

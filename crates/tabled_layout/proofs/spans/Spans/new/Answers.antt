use Rattle.std.proofs.Common.{subst, sym}
use Rattle.tabled_kept.specs.Table.{table}
use Rattle.tabled_layout.specs.Spans.{position_cmp, NoLonger}
use Rattle.tabled_layout.proofs.CoveringLemmas.{none_longer}
use Rattle.tabled_layout.proofs.spans.Spans.new.Goals as goal

pub invariant_of-result : goal.invariant_of-result
invariant_of-result c = subst (λ es. NoLonger 0 (table position_cmp es)) (sym c.new.ensures.empty) (none_longer 0)

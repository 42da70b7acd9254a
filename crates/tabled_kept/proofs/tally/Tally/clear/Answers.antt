use Rattle.std.proofs.Common.{sym, ap, ◌∙◌}
use Rattle.std.specs.FinMap as map
use Rattle.tabled_kept.proofs.tally.Tally.clear.Goals as goal

pub invariant_of-self : goal.invariant_of-self
invariant_of-self g c = sym (ap map.len c.clear.ensures ∙ map.len-empty g.K.Ord.cmp g.row.V.Denot)

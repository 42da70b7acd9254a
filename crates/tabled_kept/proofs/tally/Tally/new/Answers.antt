use Rattle.std.proofs.Common.{sym, ap, ◌∙◌}
use Rattle.std.specs.FinMap as map
use Rattle.tabled_kept.proofs.tally.Tally.new.Goals as goal

pub invariant_of-result : goal.invariant_of-result
invariant_of-result g c = sym (ap map.len c.new.ensures ∙ map.len-empty g.K.Ord.cmp g.row.V.Denot)

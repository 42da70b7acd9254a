use Rattle.std.proofs.Common.{sym, ap, ◌∙◌}
use Rattle.tabled_kept.specs.Table.{table}
use Rattle.tabled_kept.proofs.Tallies.{none_where_zero}
use Rattle.tabled_kept.proofs.tally.Tally.is_empty.Goals as goal

pub returns : goal.returns
returns g c =
    let seen = ap (table g.K.Ord.cmp) c.self.view_is in
    let here = none_where_zero (table g.K.Ord.cmp c.self.inside.entries) c.self.inside.number c.self.invariant in
    (λ yes. sym seen ∙ here.0 yes, λ none. here.1 (seen ∙ none))

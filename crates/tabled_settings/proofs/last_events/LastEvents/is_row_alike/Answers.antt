use Rattle.std.proofs.Common.{sym, subst, ◌∙◌}
use Rattle.std.proofs.lemmas.Bool.{not-true}
use Rattle.tabled_settings.specs.AlikeRows.{CoverAlike}
use Rattle.tabled_settings.proofs.AlikeRows.{cover_alike}
use Rattle.tabled_settings.proofs.last_events.LastEvents.is_row_alike.Goals as goal

pub returns-else-is_empty-clause-alike : goal.returns-else-is_empty-clause-alike
returns-else-is_empty-clause-alike g c known =
    subst (λ events. CoverAlike events c.args.row) c.self.view_is
    (cover_alike c.self.inside.kinds c.args.row _ c.self.invariant.1 (sym c.may_vary.ensures ∙ not-true c.may_vary.result known))

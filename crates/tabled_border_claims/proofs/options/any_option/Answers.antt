use Rattle.tabled_grid.proofs.Seen.{on_ok}
use Rattle.tabled_changes.proofs.ColoredLemmas.{Shows_after_change_colored}
use Rattle.tabled_border_claims.proofs.options.any_option.Goals as goal

pub returns-clause-shown : goal.returns-clause-shown
returns-clause-shown g c = λ before shows. on_ok c.change.result (λ changes. Shows_after_change_colored before _ _ _ changes shows) c.change.ensures.ok

use Rattle.tabled_grid.proofs.Seen.{on_ok}
use Rattle.tabled_changes.proofs.ColoredLemmas.{Changes_by_cell_color}
use Rattle.tabled_changes.proofs.colored_config.ColoredConfig.remove_color.Goals as goal

pub returns-clause-ok : goal.returns-clause-ok
returns-clause-ok c =
    on_ok c.remove.result (λ made. Changes_by_cell_color _ c.self.inside.config _ _ c.args.self.now c.self.view_is made) c.remove.ensures.ok

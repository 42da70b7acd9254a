use Rattle.tabled_grid.proofs.Seen.{on_ok, on_err}
use Rattle.std.proofs.Common.{◌∙◌}
use Rattle.tabled_changes.proofs.ColoredLemmas.{Changes_lent}
use Rattle.tabled_color.specs.BorderColors.{border_texts}
use Rattle.tabled_color.specs.Coloring.{entity_colored}
use Rattle.tabled_color.proofs.ColoringLemmas.{none_in_entity_colored}
use Rattle.tabled_color.proofs.border_color.option.BorderColorCellOptionColoredConfig.change.Goals as goal

pub returns-clause-ok : goal.returns-clause-ok
returns-clause-ok g c =
    on_ok c.color_cells.result (λ changes. Changes_lent _ _ c.args.cfg.now _ _ c.config_mut.ensures.value
    (λ i. entity_colored (border_texts c.args.self.now) (c.count_rows.ensures i, c.count_columns.ensures i) c.args.entity) (none_in_entity_colored _ _ _) changes)
    c.color_cells.ensures.ok

pub returns-clause-err : goal.returns-clause-err
returns-clause-err g c = on_err c.color_cells.result (λ same. λ i. record c.args.cfg.now { spanned = (same ∙ c.config_mut.ensures.value) i }) c.color_cells.ensures.err

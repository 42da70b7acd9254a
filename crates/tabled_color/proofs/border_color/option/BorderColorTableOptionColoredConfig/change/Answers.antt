use Rattle.std.proofs.Common.{◌∙◌}
use Rattle.tabled_grid.proofs.Seen.{on_ok, on_err}
use Rattle.tabled_changes.proofs.ColoredLemmas.{Changes_lent}
use Rattle.tabled_color.specs.BorderColors.{border_texts}
use Rattle.tabled_color.specs.Coloring.{table_colored}
use Rattle.tabled_color.proofs.ColoringLemmas.{none_in_table_colored}
use Rattle.tabled_color.proofs.border_color.option.BorderColorTableOptionColoredConfig.change.Goals as goal

pub returns-clause-ok : goal.returns-clause-ok
returns-clause-ok g c =
    on_ok c.color_table.result (λ changes. Changes_lent _ _ c.args.cfg.now _ _ c.config_mut.ensures.value
    (λ i. table_colored (border_texts c.args.self) (c.count_rows.ensures i, c.count_columns.ensures i)) (none_in_table_colored _ _ _) changes)
    c.color_table.ensures.ok

pub returns-clause-err : goal.returns-clause-err
returns-clause-err g c = on_err c.color_table.result (λ same. λ i. record c.args.cfg.now { spanned = (same ∙ c.config_mut.ensures.value) i }) c.color_table.ensures.err

-- The list that was written is that of the option.
use Rattle.std.proofs.Common.{◌∙◌}
use Rattle.tabled_grid.proofs.Seen.{on_ok}
use Rattle.tabled_changes.proofs.ColoredLemmas.{Changes_lent, characters_applied}
use Rattle.tabled_options.specs.LineChar.{line_char_events}
use Rattle.tabled_options.proofs.Applying.{none_in_marks}
use Rattle.tabled_options.proofs.line_char.LineCharCellOptionColoredConfig.change.Goals as goal

pub returns-clause-ok : goal.returns-clause-ok
unfolding line_char_events
returns-clause-ok g c =
    on_ok c.apply.result (λ changes. Changes_lent _ _ c.args.cfg.now _ _ c.config_mut-config.ensures.value
    (characters_applied c.in_ok-writes.writes.items c.new.result.items _ c.in_ok-writes.ensures c.new.ensures.items
    ∙ (λ i. line_char_events c.args.self.now (c.count_rows.ensures i, c.count_columns.ensures i) c.args.entity))
    (none_in_marks _ _ _ _) changes)
    c.apply.ensures.ok

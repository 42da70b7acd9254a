-- The list that was written is that of the option.
use Rattle.std.proofs.Common.{◌∙◌}
use Rattle.tabled_grid.proofs.Seen.{on_ok}
use Rattle.tabled_changes.proofs.ColoredLemmas.{Changes_lent, characters_applied}
use Rattle.tabled_correction.specs.Corners.{joined_corner_events}
use Rattle.tabled_correction.proofs.Adding.{none_in_corners}
use Rattle.tabled_correction.proofs.joined_corners.JoinedCornersTableOptionColoredConfig.change.Goals as goal

pub returns-clause-ok : goal.returns-clause-ok
unfolding joined_corner_events
returns-clause-ok g c =
    on_ok c.apply.result (λ changes. Changes_lent _ _ c.args.cfg.now _ _ c.config_mut-config.ensures.value
    (characters_applied c.in_ok-writes.writes.items c.new.result.items _ c.in_ok-writes.ensures c.new.ensures.items
    ∙ (λ i. joined_corner_events (c.count_rows.ensures i, c.count_columns.ensures i) (c.config_mut-config.ensures.value i)))
    (none_in_corners (g.R.ExactRecords.row_count c.args.records.now, g.R.Records.column_count c.args.records.now) c.args.cfg.now.spanned) changes)
    c.apply.ensures.ok

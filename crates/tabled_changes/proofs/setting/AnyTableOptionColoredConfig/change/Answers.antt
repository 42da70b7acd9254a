use Rattle.std.proofs.Common.{refl}
use Rattle.tabled_grid.proofs.Seen.{on_ok}
use Rattle.tabled_changes.proofs.ColoredLemmas.{Changes_lent}
use Rattle.tabled_changes.proofs.setting.AnyTableOptionColoredConfig.change.Goals as goal

pub returns-clause-ok : goal.returns-clause-ok
returns-clause-ok g c = on_ok c.set_table.result (λ changes. Changes_lent _ _ c.args.cfg.now _ _ c.config_mut.ensures.value refl (g.met.S.SetTable.leaves_colors c.args.self) changes) c.set_table.ensures.ok

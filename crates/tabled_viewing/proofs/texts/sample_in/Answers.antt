-- The style is applied to the sample.
use Rattle.std.proofs.Common.{[]}
use Rattle.tabled_style.specs.Named.{ready_applied}
use Rattle.tabled_changes.proofs.ColoredLemmas.{Shows_after_change_colored}
use Rattle.tabled_viewing.proofs.texts.sample_in.Goals as goal

pub returns-clause-config : goal.returns-clause-config
returns-clause-config c =
    Shows_after_change_colored [] (ready_applied c.args.style) c.in_ok-table.table.config c.apply.new.self.config c.in_ok-apply.ensures.config.2 c.in_ok-table.ensures.config

-- Nothing was set before, and then the style was applied, and nothing else.
use Rattle.std.proofs.Common.{[]}
use Rattle.tabled_style.specs.Named.{ready_applied}
use Rattle.tabled_configuration.proofs.ConfigurationLemmas.{Shows_after_change}
use Rattle.tabled_pages.proofs.page.styled_table.Goals as goal

pub returns-clause-config : goal.returns-clause-config
returns-clause-config c =
    Shows_after_change [] (ready_applied c.args.style) c.in_ok-table.table.config.spanned c.apply.new.self.config.spanned
    c.in_ok-apply.ensures.config.2.spanned_changed c.in_ok-table.ensures.config

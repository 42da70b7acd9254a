-- The text is read off the table as it looks before.
use Rattle.std.proofs.Common.{subst}
use Rattle.tabled_configuration.specs.Colored.{Changes}
use Rattle.tabled_grid.proofs.Seen.{on_ok}
use Rattle.tabled_viewing.proofs.OnLines.{line_read}
use Rattle.tabled_viewing.proofs.captions.write_on_line.Goals as goal

pub returns-clause-config : goal.returns-clause-config
returns-clause-config g c = λ before shows nothing.
    on_ok c.apply.result (λ changed.
    subst (λ es. Changes es c.args.table.now.config c.apply.new.self.config)
    (line_read before c.args.table.now changed.0 c.in_ok-given.given c.args.text.now c.args.line shows.spanned_shown nothing changed.1 c.in_ok-given.ensures) changed.2)
    c.apply.ensures.config

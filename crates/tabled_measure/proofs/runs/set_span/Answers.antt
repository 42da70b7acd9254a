use Rattle.std.proofs.Common.{sym, subst, OnOk}
use Rattle.tabled_configuration.specs.Configuration.{Changes}
use Rattle.tabled_measure.specs.Runs.{spanned_by}
use Rattle.tabled_measure.proofs.runs.set_span.Goals as goal

pub returns-then-down-clause-ok : goal.returns-then-down-clause-ok
returns-then-down-clause-ok c =
    subst (λ down. OnOk c.set_row_span.result (Changes (spanned_by down c.args.run) c.args.cfg.now c.set_row_span.new.self)) (sym c.if-down.true) c.set_row_span.ensures.ok

pub returns-else-down-clause-ok : goal.returns-else-down-clause-ok
returns-else-down-clause-ok c =
    subst (λ down. OnOk c.set_column_span.result (Changes (spanned_by down c.args.run) c.args.cfg.now c.set_column_span.new.self)) (sym c.if-down.false) c.set_column_span.ensures.ok

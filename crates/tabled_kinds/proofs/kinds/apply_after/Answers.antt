-- The options before it went through, and this one does what it promises.
use Rattle.std.proofs.Common.{ap, is_err}
use Rattle.tabled_grid.proofs.Seen.{on_ok}
use Rattle.tabled_kinds.proofs.kinds.apply_after.Goals as goal

pub returns-clause-config : goal.returns-clause-config
returns-clause-config g c = on_ok c.apply.result (λ made. (ap is_err c.in_ok-others.was, made.0, made.1, made.2)) c.apply.ensures.config

-- The input was too long, or reading failed, or memory was refused.
use Rattle.std.proofs.Common.{ap, Err}
use Rattle.tabled_pages.proofs.FirstFault.{reading_refused}
use Rattle.tabled_pages.proofs.program.run.Goals as goal

pub returns-in_err-bytes-clause-fault : goal.returns-in_err-bytes-clause-fault
returns-in_err-bytes-clause-fault g c = λ _ status.
    reading_refused (g.R.Read.remaining c.args.input.now) c.in_err-bytes.field-0.0 c.from_residual.result c.from_residual.ensures.1 c.in_err-bytes.ensures.faults
    (λ too_long. c.in_err-bytes.ensures.too_long (ap (λ refusal. Err refusal) too_long)) status

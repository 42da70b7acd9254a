-- The input was too long, or reading failed, or memory was refused.
use Rattle.std.proofs.Common.{Err, sym, ap, subst, ◌∙◌}
use Rattle.std.proofs.lemmas.Result.{IfOk-weaker}
use Rattle.tabled_input.specs.Input.{rows_in, without_mark}
use Rattle.tabled_input.specs.Spaced.{AreEven}
use Rattle.tabled_input.proofs.Even.{spaced_even}
use Rattle.tabled_input.proofs.Faults.{reading_refused}
use Rattle.tabled_input.proofs.rows.Input.read.Goals as goal

pub returns-in_err-bytes-clause-refused : goal.returns-in_err-bytes-clause-refused
returns-in_err-bytes-clause-refused g c =
    reading_refused c.args.cells (g.R.Read.remaining c.args.input.now) c.in_err-bytes.field-0.0 c.from_residual.result c.from_residual.ensures.1 c.in_err-bytes.ensures.faults
    (λ too_long. c.in_err-bytes.ensures.too_long (ap (λ refusal. Err refusal) too_long))

pub returns-clause-even : goal.returns-clause-even
returns-clause-even g c = λ is.
    IfOk-weaker c.of_bytes.result _ _ (λ read are. subst AreEven (sym (are ∙ ap (λ cells. rows_in cells c.in_ok-bytes.bytes.items) is)) (spaced_even (without_mark c.in_ok-bytes.bytes.items))) c.of_bytes.ensures.rows

-- The bytes are no text, or the fault is that of the text.
use Rattle.std.proofs.Common.{◌≡◌, ◌⊎◌, None, Some, IfErr, OnOk, string_bytes, inr, sym, ap, subst, ◌∙◌}
use Rattle.tabled_input.specs.declared.error.InputError.TheVariants.{OutOfMemory}
use Rattle.tabled_input.specs.Input.{fault_of, fault_of_text, without_mark}
use Rattle.tabled_input.proofs.Faults.{fault_of-text, fault_of-bytes, passed_on}
use Rattle.tabled_input.proofs.rows.Input.of_bytes.Goals as goal

pub returns-in_err-text-clause-refused : goal.returns-in_err-text-clause-refused
returns-in_err-text-clause-refused c =
    passed_on (fault_of c.args.cells c.args.bytes.items) c.in_err-text.field-0.0 c.from_residual.result c.from_residual.ensures.1
    (inr (fault_of-bytes c.args.cells c.args.bytes.items c.requires c.in_err-text.ensures.refused.1 ∙ ap (λ e. Some e) (sym c.in_err-text.ensures.refused.0)))

-- the fault is that of the text
same : (c : goal.After-of_text) → fault_of c.args.cells c.args.bytes.items ≡ fault_of_text c.args.cells (without_mark (string_bytes c.in_ok-text.text))
same c = fault_of-text c.args.cells c.args.bytes.items c.requires c.in_ok-text.ensures.utf8 ∙ ap (λ bytes. fault_of_text c.args.cells (without_mark bytes)) (sym c.in_ok-text.ensures.text)

pub returns-clause-good : goal.returns-clause-good
returns-clause-good c = subst (λ fault. OnOk c.of_text.result (fault ≡ None)) (sym (same c)) c.of_text.ensures.good

pub returns-clause-refused : goal.returns-clause-refused
returns-clause-refused c = subst (λ fault. IfErr c.of_text.result (λ e. (e ≡ OutOfMemory) ⊎ (fault ≡ Some e))) (sym (same c)) c.of_text.ensures.refused

-- A text of printable ASCII is clean.
use Rattle.std.proofs.Common.{sym, ◌∙◌}
use Rattle.tabled_clean.proofs.SteeringLemmas.{printable_is_clean}
use Rattle.tabled_clean.proofs.cleaning.is_clean.Goals as goal

pub returns-then-is_printable : goal.returns-then-is_printable
returns-then-is_printable c = c.if-is_printable.true ∙ sym (printable_is_clean c.args.text.now (sym c.is_printable.ensures ∙ c.if-is_printable.true))

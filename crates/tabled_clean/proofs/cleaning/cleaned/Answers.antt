-- A clean text stays as it is.
use Rattle.std.proofs.Common.{sym, ◌∙◌}
use Rattle.tabled_clean.proofs.SteeringLemmas.{clean_stays}
use Rattle.tabled_clean.proofs.cleaning.cleaned.Goals as goal

pub returns-then-is_clean : goal.returns-then-is_clean
returns-then-is_clean c = c.in_ok-from_str.ensures.ok ∙ sym (clean_stays c.args.text.now c.utf8.text (sym c.is_clean.ensures ∙ c.if-is_clean.true))

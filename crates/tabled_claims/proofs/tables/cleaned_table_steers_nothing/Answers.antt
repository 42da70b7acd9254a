-- The cells are clean, and what the options write is, so the text is.
use Rattle.std.proofs.Common.{◌≡◌, ◌==◌, ◌&&◌, ◌||◌, nat_le, not, true, string_bytes, sym, ap, subst, ◌∙◌}
use Rattle.std.specs.List.{list_all}
use Rattle.tabled_clean.specs.Steering.{is_clean}
use Rattle.tabled_configuration.specs.Configuration as borders
use Rattle.tabled_claims.proofs.CleanTexts.{quiet_bytes, quiet_clean}
use Rattle.tabled_claims.proofs.CleanPictures.{text_quiet}
use Rattle.tabled_claims.proofs.Fitted.{if_ok}
use Rattle.tabled_claims.proofs.tables.cleaned_table_steers_nothing.Goals as goal

pub returns-clause-plain : goal.returns-clause-plain
returns-clause-plain c events shows clean =
    let shown = subst (borders.Shows events) (sym (ap (λ cfg. cfg.spanned) c.in_ok-clean.ensures.config)) shows in
    if_ok c.to_text.result (λ text is. ap is_clean is ∙ quiet_clean _ (text_quiet events c.clean.new.self.texts c.in_ok-clean.ensures.clean clean)) (c.to_text.ensures.text events shown)

pub returns-clause-bytes : goal.returns-clause-bytes
returns-clause-bytes c events shows clean =
    let shown = subst (borders.Shows events) (sym (ap (λ cfg. cfg.spanned) c.in_ok-clean.ensures.config)) shows in
    if_ok c.to_text.result
    (λ text is. ap (list_all (λ byte. (nat_le 32 byte && not (byte == 127)) || (byte == 10))) is ∙ quiet_bytes _ (text_quiet events c.clean.new.self.texts c.in_ok-clean.ensures.clean clean))
    (c.to_text.ensures.text events shown)

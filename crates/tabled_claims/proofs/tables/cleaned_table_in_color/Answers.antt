-- Each painted line is clean.
use Rattle.std.proofs.Common.{sym, subst}
use Rattle.tabled_configuration.specs.Colored.{Shows}
use Rattle.tabled_text.specs.TextTable.{painted}
use Rattle.tabled_claims.proofs.CleanPictures.{lines_are_clean}
use Rattle.tabled_claims.proofs.Fitted.{if_ok}
use Rattle.tabled_claims.proofs.tables.cleaned_table_in_color.Goals as goal

pub returns : goal.returns
returns c events shows clean =
    let shown = subst (Shows events) (sym c.in_ok-clean.ensures.config) shows in
    if_ok c.to_ansi.result
    (λ text is. (painted events c.clean.new.self.texts, is, lines_are_clean events c.clean.new.self.texts c.in_ok-clean.ensures.clean clean))
    (c.to_ansi.ensures.text events shown)

use Rattle.std.proofs.Common.{◌-◌, string_bytes, sym, ap, subst}
use Rattle.tabled_configuration.specs.Configuration as borders
use Rattle.tabled_painting.specs.Widths.{text_width}
use Rattle.tabled_width.specs.Texts.{pieces}
use Rattle.tabled_config.proofs.PieceLemmas.{on_ok}
use Rattle.tabled_measure.specs.Cells.{margin_set}
use Rattle.tabled_text.specs.Fitted.{frame_width}
use Rattle.tabled_text.specs.TextTable.{look_printed}
use Rattle.tabled_text.proofs.SpannedEven.{stand_apart}
use Rattle.tabled_text.proofs.Totals.{printable_can_share}
use Rattle.tabled_claims.proofs.Fitted.{if_ok, lines_within}
use Rattle.tabled_claims.proofs.tables.fitted_table_fits.Goals as goal

pub returns-clause-fits : goal.returns-clause-fits
returns-clause-fits c events shows narrow apart alone can few =
    let shown = subst (borders.Shows events) (sym (ap (λ cfg. cfg.spanned) c.in_ok-fit.ensures.config)) shows in
    if_ok c.to_text.result
    (λ text. lines_within (text_width (look_printed events c.fit.new.self.texts) (margin_set events)) c.args.total (pieces (string_bytes text)) (c.in_ok-fit.ensures.fits events shows can few alone))
    (c.to_text.ensures.rectangle events shown narrow (stand_apart events c.fit.new.self.texts apart))

pub returns-clause-texts : goal.returns-clause-texts
returns-clause-texts c events shows = on_ok c.to_text.result (c.in_ok-fit.ensures.texts events shows)

pub returns-clause-printable : goal.returns-clause-printable
returns-clause-printable c events shows narrow apart alone ends printable few =
    returns-clause-fits c events shows narrow apart alone
    (printable_can_share c.args.how 1 (c.args.total - frame_width events c.args.table.now.texts) c.args.table.now.texts ends printable) few

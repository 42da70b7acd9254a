-- The text of what is lent is that of the table; it is even, and its lines stand straight.
use Rattle.std.proofs.Common.{sym, subst, ap, ◌∙◌}
use Rattle.tabled_configuration.specs.Configuration as borders
use Rattle.tabled_width.specs.Narrow.{IsRectangle}
use Rattle.tabled_width.specs.Texts.{pieces}
use Rattle.tabled_painting.specs.Widths.{StandsStraightIn, text_width}
use Rattle.tabled_measure.specs.Cells.{margin_set}
use Rattle.tabled_text.specs.TextTable.{look_of, look_printed, text_of}
use Rattle.tabled_measure.proofs.EqualRows.{each-count}
use Rattle.tabled_text.proofs.Even.{text_straight}
use Rattle.tabled_text.proofs.SpannedEven.{printed_even}
use Rattle.tabled_text.proofs.ViewLemmas.{plain_text_viewed}
use Rattle.tabled_text.proofs.table.Table.to_text.Goals as goal

pub returns-clause-text : goal.returns-clause-text
returns-clause-text g c es shows =
    let is = c.view.ensures in
    c.in_ok-text.ensures ∙ plain_text_viewed g.T.AsStr.text c.view.result is.table es (subst (λ cfg. borders.Shows es cfg.spanned) (sym is.config) shows) ∙ ap (text_of es) is.texts

pub returns-clause-rectangle : goal.returns-clause-rectangle
returns-clause-rectangle g c es shows narrow apart =
    let table = c.args.self.now.texts in
    let is = c.view.ensures in
    subst (IsRectangle (text_width (look_printed es table) (margin_set es))) (sym (returns-clause-text g c es shows))
    (printed_even es table (each-count table is.equal) is.utf8 narrow apart)

pub returns-clause-straight : goal.returns-clause-straight
returns-clause-straight g c es shows narrow none some col inside drawn =
    let table = c.args.self.now.texts in
    let is = c.view.ensures in
    subst (λ text. StandsStraightIn (look_of es table) (margin_set es) col (pieces text)) (sym (returns-clause-text g c es shows))
    (text_straight es table (each-count table is.equal) is.utf8 narrow none some col inside drawn)

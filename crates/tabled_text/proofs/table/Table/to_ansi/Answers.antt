-- The text in color of what is lent is that of the table, whose characters are even.
use Rattle.std.proofs.Common.{refl, sym, subst, ap, ◌∙◌}
use Rattle.tabled_configuration.specs.Colored.{Shows}
use Rattle.tabled_painting.specs.PaintedTable.{colored_text}
use Rattle.tabled_text.specs.TextTable.{painted, text_of}
use Rattle.tabled_measure.proofs.EqualRows.{each-count}
use Rattle.tabled_text.proofs.SpannedEven.{printed_even}
use Rattle.tabled_text.proofs.ViewLemmas.{colored_text_viewed}
use Rattle.tabled_text.proofs.table.Table.to_ansi.Goals as goal

pub returns-clause-text : goal.returns-clause-text
returns-clause-text g c es shows =
    let is = c.view.ensures in
    c.in_ok-text.ensures ∙ colored_text_viewed g.T.AsStr.text c.view.result is.table es (subst (Shows es) (sym is.config) shows) ∙ ap (λ table. colored_text (painted es table)) is.texts

pub returns-clause-characters : goal.returns-clause-characters
unfolding text_of
returns-clause-characters g c es shows = (painted es c.args.self.now.texts, returns-clause-text g c es shows, refl)

pub returns-clause-rectangle : goal.returns-clause-rectangle
unfolding text_of
returns-clause-rectangle g c es shows narrow apart =
    let table = c.args.self.now.texts in
    let is = c.view.ensures in
    (painted es table, returns-clause-text g c es shows, printed_even es table (each-count table is.equal) is.utf8 narrow apart)

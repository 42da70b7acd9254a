-- What is lent is printed as the table; its text is even.
use Rattle.std.proofs.Common.{◌++◌, OnOk, ap, sym, subst, ◌∙◌}
use Rattle.std.specs.Io.KnownBytes.{Appends}
use Rattle.tabled_configuration.specs.Configuration as borders
use Rattle.tabled_grid.proofs.Seen.{on_ok}
use Rattle.tabled_text.specs.TextTable.{text_of}
use Rattle.tabled_measure.proofs.EqualRows.{each-count}
use Rattle.tabled_text.proofs.SpannedEven.{printed_even}
use Rattle.tabled_text.proofs.ViewLemmas.{plain_text_viewed}
use Rattle.tabled_text.proofs.table.Table.print_between.Goals as goal

pub returns-clause-text : goal.returns-clause-text
returns-clause-text g c es shows =
    let is = c.view.ensures in
    subst (λ bytes. OnOk c.print.result (Appends (g.W.Write.contents c.args.out.now) (g.W.Write.contents c.print.new.out) (c.args.before.now ++ bytes ++ c.args.after.now)))
    (plain_text_viewed g.T.AsStr.text c.view.result is.table es (subst (λ cfg. borders.Shows es cfg.spanned) (sym is.config) shows) ∙ ap (text_of es) is.texts) c.print.ensures.text

pub returns-clause-rectangle : goal.returns-clause-rectangle
returns-clause-rectangle g c es shows narrow apart =
    let table = c.args.self.now.texts in
    let is = c.view.ensures in
    on_ok c.print.result (λ written. printed_even es table (each-count table is.equal) is.utf8 narrow apart) c.print.ensures.text

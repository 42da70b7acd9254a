-- What is lent is printed in color as the table.
use Rattle.std.proofs.Common.{◌++◌, OnOk, ap, sym, subst, ◌∙◌}
use Rattle.std.specs.Io.KnownBytes.{Appends}
use Rattle.tabled_configuration.specs.Colored.{Shows}
use Rattle.tabled_painting.specs.PaintedTable.{colored_text}
use Rattle.tabled_text.specs.TextTable.{painted}
use Rattle.tabled_text.proofs.ViewLemmas.{colored_text_viewed}
use Rattle.tabled_text.proofs.table.Table.print_ansi_between.Goals as goal

pub returns-clause-text : goal.returns-clause-text
returns-clause-text g c es shows =
    let is = c.view.ensures in
    subst (λ bytes. OnOk c.print.result (Appends (g.W.Write.contents c.args.out.now) (g.W.Write.contents c.print.new.out) (c.args.before.now ++ bytes ++ c.args.after.now)))
    (colored_text_viewed g.T.AsStr.text c.view.result is.table es (subst (Shows es) (sym is.config) shows) ∙ ap (λ table. colored_text (painted es table)) is.texts) c.print.ensures.text

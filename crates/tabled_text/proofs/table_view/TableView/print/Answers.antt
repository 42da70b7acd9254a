-- Its page between the two texts; without places there is nothing between them.
use Rattle.std.proofs.Common.{◌++◌, subst, sym, ap, ◌∙◌, OnOk}
use Rattle.std.specs.Io.KnownBytes.{Appends}
use Rattle.std.proofs.lemmas.List.{append-nil}
use Rattle.tabled_text.proofs.ViewLemmas.{no_text}
use Rattle.tabled_text.proofs.table_view.TableView.print.Goals as goal

pub returns-then-has_no_places-clause-text : goal.returns-then-has_no_places-clause-text
returns-then-has_no_places-clause-text g c =
    let before = c.args.before.now in
    let nothing = no_text g.T.AsStr.text c.args.self.now c.args.with_colors (sym c.has_no_places.ensures ∙ c.if-has_no_places.true) in
    subst (λ bytes. OnOk c.write_both.result (Appends (g.W.Write.contents c.args.out.now) (g.W.Write.contents c.write_both.new.out) (bytes ++ c.args.after.now)))
    (sym (append-nil before) ∙ ap (λ bytes. before ++ bytes) (sym nothing)) c.write_both.ensures.written

pub returns-clause-text : goal.returns-clause-text
returns-clause-text g c =
    subst (λ bytes. OnOk c.write_page.result (Appends (g.W.Write.contents c.args.out.now) (g.W.Write.contents c.write_page.new.out) (c.args.before.now ++ bytes ++ c.args.after.now)))
    c.in_ok-page.ensures.text c.write_page.ensures.text

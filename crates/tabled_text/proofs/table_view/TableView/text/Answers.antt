-- The text of its page; without places there is none.
use Rattle.std.proofs.Common.{◌++◌, sym, ap, ◌∙◌}
use Rattle.tabled_painting.specs.TablePages.{text_of_page}
use Rattle.tabled_text.specs.TableViews.{texts_viewed}
use Rattle.tabled_text.proofs.ViewLemmas.{no_text}
use Rattle.tabled_text.proofs.table_view.TableView.text.Goals as goal

pub returns-then-has_no_places : goal.returns-then-has_no_places
returns-then-has_no_places g c = c.new.ensures.bytes ∙ sym (no_text g.T.AsStr.text c.args.self.now c.args.with_colors (sym c.has_no_places.ensures ∙ c.if-has_no_places.true))

pub returns : goal.returns
returns g c =
    c.in_ok-text.ensures ∙ ap (λ bytes. bytes ++ text_of_page c.in_ok-page.page (texts_viewed g.T.AsStr.text c.args.self.now)) c.in_ok-room.ensures.bytes ∙ c.in_ok-page.ensures.text

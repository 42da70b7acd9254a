-- Borders are drawn, and then the width is kept, if one is asked for.
use Rattle.std.proofs.Common.{◌≡◌, ◌≤◌, ℕ, Option, Some, None, map, string_bytes, sym, subst, ◌∙◌}
use Rattle.tabled_configuration.specs.Colored.{Colored, Shows}
use Rattle.tabled_painting.specs.Widths.{text_width}
use Rattle.tabled_width.specs.Texts.{Table}
use Rattle.tabled_measure.specs.Cells.{margin_set}
use Rattle.tabled_measure.specs.Changed.{CellsArePrintable}
use Rattle.tabled_text.specs.Fitted.{least_width}
use Rattle.tabled_text.specs.TextTable.{look_of}
use Rattle.tabled_viewing.specs.Asked.{width_asked}
use Rattle.tabled_viewing.specs.View.{IsWithin, framed}
use Rattle.tabled_viewing.proofs.OnLines.{leaves}
use Rattle.tabled_viewing.proofs.Outlined.{nothing_framed}
use Rattle.tabled_viewing.proofs.page.write_page_of_table.Goals as goal

pub returns-in-None-clause-written : goal.returns-in-None-clause-written
returns-in-None-clause-written g c = λ rows are sides.
    let words = map string_bytes c.args.words.now in
    let texts = c.args.table.texts in
    let same = c.in_ok-draw_borders.ensures.texts in
    let none : width_asked c.args.request c.args.around ≡ None = sym c.width_asked.ensures ∙ c.in-None.is in
    let events = framed c.args.request c.args.style words rows texts in
    c.write_drawn.ensures.written rows texts (c.in_ok-draw_borders.ensures.config rows are) sides
    (subst (λ (width : Option ℕ). IsWithin c.args.request.cuts_off width events texts c.draw_borders.new.table.texts) (sym none) same)
    (λ most asked. let no : None ≡ Some most = sym none ∙ asked in absurd cc)

pub returns-in_ok-table-in-Some-clause-written : goal.returns-in_ok-table-in-Some-clause-written
returns-in_ok-table-in-Some-clause-written g c = λ rows are sides.
    let words = map string_bytes c.args.words.now in
    let texts = c.args.table.texts in
    let same = c.in_ok-draw_borders.ensures.texts in
    let shown = c.in_ok-draw_borders.ensures.config rows are in
    let some : width_asked c.args.request c.args.around ≡ Some c.in-Some.width = sym c.width_asked.ensures ∙ c.in-Some.is in
    let events = framed c.args.request c.args.style words rows texts in
    let kept = c.in_ok-table-in-Some.ensures in
    c.write_drawn-in-Some.ensures.written rows texts (subst (λ (config : Colored). Shows events config) (sym kept.config) shown) sides
    (subst (λ (width : Option ℕ). IsWithin c.args.request.cuts_off width events texts c.in_ok-table-in-Some.table.texts) (sym some)
    (subst (λ (before : Table). IsWithin c.args.request.cuts_off (Some c.in-Some.width) events before c.in_ok-table-in-Some.table.texts) same (kept.texts events shown.spanned_shown)))
    (λ most asked printable few.
    let both : Some c.in-Some.width ≡ Some most = sym some ∙ asked in
    let width : c.in-Some.width ≡ most = cc in
    subst (λ (n : ℕ). text_width (look_of events c.in_ok-table-in-Some.table.texts) (margin_set events) ≤ n) width
    (kept.fits events shown.spanned_shown (leaves events (nothing_framed c.args.request c.args.style words rows texts)) (subst CellsArePrintable (sym same) printable)
    (subst (λ (before : Table). least_width 1 events before ≤ c.in-Some.width) (sym same) (subst (λ (n : ℕ). least_width 1 events texts ≤ n) (sym width) few))))

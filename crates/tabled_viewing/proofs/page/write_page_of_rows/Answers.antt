-- The texts are shown as they are, or cleaned.
use Rattle.std.proofs.Common.{◌≡◌, if◌then◌else◌, List, ℕ, IfOk, map, string_bytes, sym, ap, subst, ◌∙◌}
use Rattle.std.specs.Prelude.{option_map}
use Rattle.std.specs.Io.KnownBytes.{Appends}
use Rattle.tabled_clean.specs.Steering.{cleaned}
use Rattle.tabled_measure.specs.Changed.{cells_changed, each_text}
use Rattle.tabled_request.specs.Sides.{sides_of}
use Rattle.tabled_text.specs.TextTable.{lent_texts}
use Rattle.tabled_width.specs.Texts.{Table}
use Rattle.tabled_viewing.specs.Outlines.{AreMarked, marked}
use Rattle.tabled_viewing.specs.Rows.{texts_shown}
use Rattle.tabled_viewing.specs.View.{IsPageOf}
use Rattle.tabled_viewing.proofs.page.write_page_of_rows.Goals as goal

pub returns-then-stays-clause-written : goal.returns-then-stays-clause-written
unfolding texts_shown
returns-then-stays-clause-written g c =
    let request = c.args.request in
    let words = map string_bytes c.args.words.now in
    let rows : Table = lent_texts c.args.rows.items in
    let shown : texts_shown request rows ≡ c.in_ok-table.table.texts = ap (λ table. if request.is_raw then table else cells_changed (each_text cleaned) table) (sym c.in_ok-table.ensures.texts) ∙ c.stays.ensures.yes c.if-stays.true in
    let are : AreMarked request words rows c.in_ok-marked.marked = c.in_ok-marked.ensures ∙ (λ i. option_map (marked (lent_texts (c.deref-2.ensures.value i))) (c.word_at.ensures i)) in
    let sides : c.deref-then-stays.result.now ≡ sides_of request words rows = c.deref-then-stays.ensures.value ∙ c.in_ok-sides.ensures ∙ ap (λ all. sides_of request words (lent_texts all)) c.deref.ensures.value in
    subst (λ (texts : Table). IfOk c.write_page_of_table.result (λ notes. (text : List ℕ) × IsPageOf request c.args.style words c.args.around rows texts text notes
    × Appends (g.W.Write.contents c.args.output.now) (g.W.Write.contents c.write_page_of_table.new.output) text)) (sym shown) (c.write_page_of_table.ensures.written rows are sides)

pub returns-clause-written : goal.returns-clause-written
unfolding texts_shown
returns-clause-written g c =
    let request = c.args.request in
    let words = map string_bytes c.args.words.now in
    let rows : Table = lent_texts c.args.rows.items in
    let shown : texts_shown request rows ≡ c.in_ok-table-2.table.texts = (λ i. if c.stays.ensures.no c.if-stays.false i then rows else cells_changed (each_text cleaned) (sym c.in_ok-table.ensures.texts i)) ∙ sym c.in_ok-table-2.ensures.texts in
    let are : AreMarked request words rows c.in_ok-marked.marked = c.in_ok-marked.ensures ∙ (λ i. option_map (marked (lent_texts (c.deref-2.ensures.value i))) (c.word_at.ensures i)) in
    let sides : c.deref-3.result.now ≡ sides_of request words rows = c.deref-3.ensures.value ∙ c.in_ok-sides.ensures ∙ ap (λ all. sides_of request words (lent_texts all)) c.deref.ensures.value in
    subst (λ (texts : Table). IfOk c.write_page_of_table-2.result (λ notes. (text : List ℕ) × IsPageOf request c.args.style words c.args.around rows texts text notes
    × Appends (g.W.Write.contents c.args.output.now) (g.W.Write.contents c.write_page_of_table-2.new.output) text)) (sym shown) (c.write_page_of_table-2.ensures.written rows are sides)

-- Each character takes one column, and they are no more than the columns.
use Rattle.std.proofs.Common.{◌≡◌, ◌+◌, ◌&&◌, length, chars, sum, sym, ap, ◌∙◌}
use Rattle.std.specs.Prelude.{nat_le}
use Rattle.std.proofs.lemmas.Iterator.{YieldsList-from_chars}
use Rattle.std.proofs.lemmas.Iterator.Consumers.{count_from_yields_List}
use Rattle.tabled_measure.specs.Sizes.{column_widths}
use Rattle.tabled_viewing.proofs.captions.has_room.Goals as goal

pub returns-then-all_take_one : goal.returns-then-all_take_one
returns-then-all_take_one g c =
    let texts = c.args.table.now.texts in
    let text = c.args.text.now in
    let count : c.count-count.result ≡ length (chars text) = count_from_yields_List _ c.count-count.result c.count-count.ensures.ran (YieldsList-from_chars c.args.text.now c.utf8.text cc) in
    c.are_within.ensures
    ∙ (λ i. nat_le (count i + 2) (sum ((c.deref.ensures.value ∙ c.sizes.ensures.widths) i)))
    ∙ ap (λ b. b && nat_le (length (chars text) + 2) (sum (column_widths texts))) (sym (sym c.all_take_one.ensures ∙ c.if-all_take_one.true))

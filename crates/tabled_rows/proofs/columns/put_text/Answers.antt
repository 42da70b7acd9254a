-- The text stands at its index, or at the end.
use Rattle.std.proofs.Common.{◌≡◌, ℕ, List, map, string_bytes, ap, ◌∙◌, arith}
use Rattle.std.specs.List.{insert}
use Rattle.tabled_rows.proofs.RowLemmas.{insert-map, insert-min}
use Rattle.tabled_rows.proofs.columns.put_text.Goals as goal

pub returns : goal.returns
returns c =
    let put : c.insert.new.self.items ≡ insert c.fill.new.row.items c.min-at.result c.args.text = rw (c.insert.ensures.succeeds c.fill.ensures.room) at c.insert.ensures.items in
    let at : insert c.fill.new.row.items c.min-at.result c.args.text ≡ insert c.fill.new.row.items c.args.index c.args.text =
    ap (λ (k : ℕ). insert c.fill.new.row.items k c.args.text) c.min-at.ensures ∙ insert-min c.fill.new.row.items c.args.index c.len.result c.args.text (omega (arith, c.len.ensures)) in
    ap (map string_bytes) (put ∙ at) ∙ insert-map string_bytes c.fill.new.row.items c.args.index c.args.text ∙ ap (λ (texts : List (List ℕ)). insert texts c.args.index (string_bytes c.args.text)) c.fill.ensures.texts

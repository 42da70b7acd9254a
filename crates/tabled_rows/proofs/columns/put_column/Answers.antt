-- A text is put into one row more.
use Rattle.std.proofs.Common.{◌≡◌, ◌≢◌, ℕ, drop, String, get_or-set_other, List, [], map, get_or, string_bytes, Global, sym, ap, ◌∙◌, arith}
use Rattle.std.specs.declared.vec.Vec.{Vec}
use Rattle.std.specs.List.{insert}
use Rattle.std.proofs.lemmas.List.{length-map}
use Rattle.tabled_rows.specs.Rows.{row_texts, filled_to, column_put}
use Rattle.tabled_rows.proofs.RowLemmas.{row-kept, row-put, row-at, next-of, drop-after, done-more, whole, as-many}
use Rattle.tabled_rows.proofs.columns.put_column.Goals as goal

pub loop-row-preserved : goal.loop-row-preserved
loop-row-preserved c =
    let rows = c.loop-row.rows in
    let i = c.loop-row.row-index in
    let new = c.put_text.new.row in
    let none = c.row-item.result in
    let first = row_texts c.args.rows.now in
    let column = map (string_bytes {Z = Global}) c.args.column.items in
    let text : string_bytes c.next_text-text.result ≡ get_or column i [] = c.next_text-text.ensures.text ∙ ap (λ (items : List (String Global)). get_or (map string_bytes items) 0 []) c.loop-row.invariant.rest ∙ next-of (string_bytes {Z = Global}) c.args.column.items i in
    let here : get_or (row_texts rows) i [] ≡ get_or first i [] = row-at rows i none (omega arith) ∙ ap (λ (row : Vec (String Global) Global). map string_bytes row.items) (c.loop-row.invariant.left i none (omega arith)) ∙ sym (row-at c.args.rows.now i none (omega arith)) in
    record {
      done = done-more (λ n row. row ≡ insert (filled_to c.args.width (get_or first n [])) c.args.index (get_or column n [])) (row_texts rows) _ i _ c.loop-row.invariant.done (λ n other. row-kept rows i n new other) (row-put rows i new (omega arith))
          (c.put_text.ensures ∙ ap (λ (row : List (List ℕ)). insert (filled_to c.args.width row) c.args.index (string_bytes c.next_text-text.result)) (sym (row-at rows i none (omega arith)) ∙ here)
          ∙ ap (insert (filled_to c.args.width (get_or first i [])) c.args.index) text);
      left = λ n other after. let unlike : n ≢ i = omega arith in get_or-set_other rows i n new other unlike ∙ c.loop-row.invariant.left n other (omega arith);
      rest = c.next_text-text.ensures.rest ∙ ap (drop 1) c.loop-row.invariant.rest ∙ drop-after c.args.column.items i;
    }

pub returns : goal.returns
unfolding column_put
returns c = whole (λ n. insert (filled_to c.args.width (get_or (row_texts c.args.rows.now) n [])) c.args.index (get_or (map string_bytes c.args.column.items) n [])) (row_texts c.loop-row.rows) _ c.loop-row.row-index (as-many c.loop-row.rows c.args.rows.now c.loop-row.auto.rows) (simp length-map c.loop-row-test.false) c.loop-row.invariant.done

-- A text is taken out of one row more.
use Rattle.std.proofs.Common.{◌≡◌, ◌≢◌, ℕ, List, [], get_or, sym, ap, ◌∙◌, arith}
use Rattle.std.specs.List.{remove}
use Rattle.std.proofs.lemmas.List.{length-map}
use Rattle.tabled_rows.specs.Rows.{row_texts}
use Rattle.tabled_rows.proofs.RowLemmas.{row-kept, row-put, row-at, done-more, whole-map, as-many}
use Rattle.tabled_rows.proofs.columns.remove_column.Goals as goal

pub loop-row-preserved : goal.loop-row-preserved
loop-row-preserved c =
    let rows = c.loop-row.rows in
    let i = c.loop-row.row-index in
    let new = c.take_text.new.row in
    let first = row_texts c.args.rows.now in
    record {
      done = done-more (λ n row. row ≡ remove (get_or first n []) c.args.index) (row_texts rows) _ i _ c.loop-row.invariant.done (λ n other. row-kept rows i n new other) (row-put rows i new (omega arith))
          (c.take_text.ensures ∙ ap (λ (row : List (List ℕ)). remove row c.args.index) (sym (row-at rows i c.row-item.result (omega arith)) ∙ c.loop-row.invariant.left i (omega arith)));
      left = λ n after. let other : n ≢ i = omega arith in row-kept rows i n new other ∙ c.loop-row.invariant.left n (omega arith);
    }

pub returns : goal.returns
returns c = whole-map (λ (row : List (List ℕ)). remove row c.args.index) (row_texts c.args.rows.now) (row_texts c.loop-row.rows) c.loop-row.row-index (as-many c.loop-row.rows c.args.rows.now c.loop-row.auto.rows) (simp length-map c.loop-row-test.false) c.loop-row.invariant.done

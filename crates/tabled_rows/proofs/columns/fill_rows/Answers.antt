-- One row more is filled.
use Rattle.std.proofs.Common.{◌≡◌, ◌≢◌, [], map, get_or, string_bytes, String, Global, get_or-set_other, sym, ap, ◌∙◌, arith}
use Rattle.std.specs.declared.vec.Vec.{Vec}
use Rattle.std.proofs.lemmas.List.{length-map}
use Rattle.tabled_rows.specs.Rows.{row_texts, filled_to}
use Rattle.tabled_rows.proofs.RowLemmas.{row-kept, row-put, row-at, done-more, whole-map, as-many}
use Rattle.tabled_rows.proofs.columns.fill_rows.Goals as goal

pub loop-row-preserved : goal.loop-row-preserved
loop-row-preserved c =
    let rows = c.loop-row.rows in
    let i = c.loop-row.row-index in
    let new = c.fill.new.row in
    let none = c.row-item.result in
    let first = c.reserve_column.new.rows in
    let here : map string_bytes (get_or rows i none).items ≡ get_or (row_texts first) i [] = ap (λ (row : Vec (String Global) Global). map string_bytes row.items) (c.loop-row.invariant.left i none (omega arith)) ∙ sym (row-at first i none (omega arith)) in
    record {
      done = done-more (λ n row. row ≡ filled_to c.args.width (get_or (row_texts first) n [])) (row_texts rows) _ i _ c.loop-row.invariant.done (λ n other. row-kept rows i n new other) (row-put rows i new (omega arith))
          (c.fill.ensures.texts ∙ ap (filled_to c.args.width) here);
      left = λ n other after. let unlike : n ≢ i = omega arith in get_or-set_other rows i n new other unlike ∙ c.loop-row.invariant.left n other (omega arith);
    }

pub returns : goal.returns
returns c =
    whole-map (filled_to c.args.width) (row_texts c.reserve_column.new.rows) (row_texts c.loop-row.rows) c.loop-row.row-index (as-many c.loop-row.rows c.reserve_column.new.rows c.loop-row.auto.rows) (simp length-map c.loop-row-test.false) c.loop-row.invariant.done
    ∙ ap (map (filled_to c.args.width)) c.in_ok-reserve_column.ensures.texts

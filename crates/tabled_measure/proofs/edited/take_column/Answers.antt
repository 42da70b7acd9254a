-- A text is taken out of one row more, and the column has it.
use Rattle.std.proofs.Common.{◌≡◌, ◌≢◌, ℕ, List, [], map, length, get_or, string_bytes, String, Global, sym, ap, ◌∙◌, arith}
use Rattle.std.specs.declared.vec.Vec.{Vec}
use Rattle.std.specs.List.{remove}
use Rattle.std.proofs.lemmas.List.{length-map, get_or-map, take_all}
use Rattle.tabled_width.specs.Texts.{texts}
use Rattle.tabled_rows.proofs.RowLemmas.{row-kept, row-put, row-at, done-more, whole-map, as-many}
use Rattle.tabled_measure.specs.EditedColumns.{without_column}
use Rattle.tabled_measure.specs.Sizes.{cell}
use Rattle.tabled_measure.proofs.CellLemmas.{copied_more}
use Rattle.tabled_measure.proofs.edited.take_column.Goals as goal

pub loop-row-preserved : goal.loop-row-preserved
loop-row-preserved c =
    let rows = c.loop-row.rows in
    let i = c.loop-row.row-index in
    let new = c.take_text-text.new.row in
    let first = texts c.args.rows.now in
    let text_of : List (List ℕ) → List ℕ = λ row. cell row c.args.index in
    let same : length rows ≡ length c.args.rows.now = c.loop-row.auto.rows in
    let long : length first ≡ length c.args.rows.now = length-map c.args.rows.now (λ (row : Vec (String Global) Global). map string_bytes row.items) in
    let here = sym (row-at rows i c.row-item.result (omega arith)) ∙ c.loop-row.invariant.left i (omega arith) in
    record {
      done = done-more (λ n row. row ≡ remove (get_or first n []) c.args.index) (texts rows) _ i _ c.loop-row.invariant.done (λ n other. row-kept rows i n new other) (row-put rows i new (omega arith))
          (c.take_text-text.ensures.rest ∙ ap (λ (row : List (List ℕ)). remove row c.args.index) here);
      left = λ n after. let other : n ≢ i = omega arith in row-kept rows i n new other ∙ c.loop-row.invariant.left n (omega arith);
      taken = copied_more (string_bytes {Z = Global}) c.loop-row.column.items c.push.new.self.items c.take_text-text.result (map text_of first) i [] c.in_ok-push.ensures.items c.loop-row.invariant.taken
          (omega (arith, c.loop-row-test.true, same, long, length-map first text_of))
          (c.take_text-text.ensures.text ∙ ap text_of here ∙ sym (get_or-map text_of first i [] [] (omega (arith, c.loop-row-test.true, same, long))));
      count = omega (arith, c.in_ok-push.ensures.len, c.loop-row.invariant.count);
      room = omega (arith, c.push.ensures.capacity, c.loop-row.invariant.room);
    }

pub returns-clause-texts : goal.returns-clause-texts
unfolding without_column
returns-clause-texts c =
    whole-map (λ (row : List (List ℕ)). remove row c.args.index) (texts c.args.rows.now) (texts c.loop-row.rows) c.loop-row.row-index (as-many c.loop-row.rows c.args.rows.now c.loop-row.auto.rows) (simp length-map c.loop-row-test.false) c.loop-row.invariant.done

pub returns-clause-column : goal.returns-clause-column
returns-clause-column c =
    let first = texts c.args.rows.now in
    let text_of : List (List ℕ) → List ℕ = λ row. cell row c.args.index in
    let long = length-map c.args.rows.now (λ (row : Vec (String Global) Global). map string_bytes row.items) in
    c.loop-row.invariant.taken ∙ take_all c.loop-row.row-index (map text_of first) (omega (arith, c.loop-row-test.false, c.loop-row.auto.rows, long, length-map first text_of))

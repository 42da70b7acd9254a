-- One row more is filled, and at the end all are.
use Rattle.std.proofs.Common.{◌≡◌, ℕ, suc, ◌+◌, ◌<◌, [], List, Global, length, get_or, set, sym, ap, ◌∙◌, arith}
use Rattle.std.specs.declared.vec.Vec.{Vec}
use Rattle.std.proofs.lemmas.List.{get_or-map, length-map, map-set}
use Rattle.tabled_printing.specs.Pieces.{lent}
use Rattle.tabled_rows.specs.Rows.{filled_to}
use Rattle.tabled_text.specs.TextTable.{lent_texts}
use Rattle.tabled_viewing.proofs.Mapped.{mapped_to, next_left, next_mapped, all_mapped}
use Rattle.tabled_viewing.proofs.rows.fill_rows.Goals as goal
use denote.Ref.{Bor}

cells : Vec (Bor (List ℕ)) Global → List (List ℕ)
cells row = lent row.items

pub loop-row-preserved : goal.loop-row-preserved
unfolding cells
loop-row-preserved c =
    let rows = c.loop-row.rows in
    let old = lent_texts c.args.rows.now in
    let fill = filled_to c.args.width in
    let at = c.loop-row.row-index in
    let done : lent_texts rows ≡ mapped_to fill at old = c.loop-row.invariant in
    let inside : at < length old = omega (arith, length-map c.args.rows.now cells, c.loop-row-test.true, c.loop-row.auto.rows) in
    let before : cells (get_or rows at c.row-item.result) ≡ get_or old at [] =
    sym (get_or-map cells rows at c.row-item.result [] (omega (arith, c.loop-row-test.true, c.loop-row.auto.rows))) ∙ ap (λ table. get_or table at []) done ∙ next_left fill at old [] in
    map-set cells rows at c.fill_row.new.row
    ∙ ap (λ row. set (lent_texts rows) at row) (c.in_ok-fill_row.ensures ∙ ap fill before)
    ∙ ap (λ table. set table at (fill (get_or old at []))) done
    ∙ next_mapped fill at old [] inside
    ∙ ap (λ count. mapped_to fill count old) (let next : suc at ≡ at + 1 = omega arith in next)

pub returns : goal.returns
unfolding cells
returns c =
    let old = lent_texts c.args.rows.now in
    c.loop-row.invariant ∙ all_mapped (filled_to c.args.width) c.loop-row.row-index old (omega (arith, length-map c.args.rows.now cells, c.loop-row-test.false))

-- One row more has its text, and at the end all have.
use Rattle.std.proofs.Common.{◌≡◌, ℕ, suc, ◌+◌, ◌<◌, ◌∷◌, [], List, Global, map, length, get_or, set, string_bytes, sym, ap, ◌∙◌, arith}
use Rattle.std.specs.declared.vec.Vec.{Vec}
use Rattle.std.proofs.lemmas.List.{get_or-map, length-map, map-set}
use Rattle.tabled_input.specs.Lines.{cells_of}
use Rattle.tabled_input.proofs.Numbering.{before_to, next_left, next_put, all_put}
use Rattle.tabled_input.proofs.selection.put_before.Goals as goal
use denote.Ref.{Bor}

cells : Vec (Bor (List ℕ)) Global → List (List ℕ)
cells row = map (λ cell. cell.now) row.items

pub loop-at-preserved : goal.loop-at-preserved
unfolding cells
loop-at-preserved c =
    let rows = c.loop-at.rows in
    let old = cells_of c.args.rows.now in
    let texts = map string_bytes c.args.texts.now in
    let at = c.loop-at.at in
    let done : cells_of rows ≡ before_to at texts old = c.loop-at.invariant in
    let same : length texts ≡ length old = omega (arith, c.requires, length-map c.args.rows.now cells, length-map c.args.texts.now (string_bytes {Z = Global})) in
    let inside : at < length old = omega (arith, length-map c.args.rows.now cells, c.loop-at-test.true, c.loop-at.auto.rows) in
    let before : cells (get_or rows at c.index-rows-at.result) ≡ get_or old at [] =
    sym (get_or-map cells rows at c.index-rows-at.result [] (omega (arith, c.loop-at-test.true, c.loop-at.auto.rows))) ∙ ap (λ table. get_or table at []) done ∙ next_left at texts old same in
    let text : c.as_str.result.now ≡ get_or texts at [] =
    c.as_str.ensures.value ∙ ap string_bytes c.index-texts-at.is ∙ sym (get_or-map string_bytes c.args.texts.now at c.index-texts-at.result [] (omega (arith, c.loop-at-test.true, c.requires))) in
    map-set cells rows at c.put_first.new.row
    ∙ ap (λ row. set (cells_of rows) at row) (c.in_ok-put_first.ensures ∙ (λ i. text i ∷ before i))
    ∙ ap (λ table. set table at (get_or texts at [] ∷ get_or old at [])) done
    ∙ next_put at texts old same inside
    ∙ ap (λ count. before_to count texts old) (let next : suc at ≡ at + 1 = omega arith in next)

pub returns : goal.returns
unfolding cells
returns c =
    let old = cells_of c.args.rows.now in
    let texts = map string_bytes c.args.texts.now in
    let lengths = length-map c.args.rows.now cells in
    c.loop-at.invariant ∙ all_put c.loop-at.at texts old (omega (arith, c.requires, lengths, length-map c.args.texts.now (string_bytes {Z = Global}))) (omega (arith, lengths, c.loop-at-test.false))

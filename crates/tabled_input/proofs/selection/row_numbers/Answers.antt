-- One number more, and at the end all.
use Rattle.std.proofs.Common.{◌≡◌, ◌+◌, ◌<◌, ◌++◌, ◌∷◌, [], suc, get_or, length, map, string_bytes, take, sym, ap, ◌∙◌, arith}
use Rattle.std.specs.List.{range_with_len}
use Rattle.std.proofs.Math.Seq.{take-suc, take-length}
use Rattle.std.proofs.lemmas.List.{get_or-map, map-append}
use Rattle.std.proofs.lemmas.List.FromFn.{get_or-range_with_len, length-map-range_with_len, length-range_with_len}
use Rattle.tabled_input.specs.Selection.{number_text}
use Rattle.tabled_input.proofs.selection.row_numbers.Goals as goal

pub loop-row-preserved : goal.loop-row-preserved
loop-row-preserved c =
    let first = c.first_number-first.result in
    let row = c.loop-row.row in
    let all = map number_text (range_with_len first c.args.rows) in
    let within : row < c.args.rows = c.loop-row-test.true in
    let next : get_or all row [] ≡ number_text (first + row) =
    get_or-map number_text (range_with_len first c.args.rows) row 0 [] (omega (arith, within, length-range_with_len first c.args.rows)) ∙ ap number_text (get_or-range_with_len first c.args.rows row 0 within) in
    ap (map string_bytes) c.in_ok-push.ensures.items ∙ map-append string_bytes c.loop-row.numbers.items _
    ∙ (λ i. c.loop-row.invariant i ++ (c.in_ok-number_text.ensures ∙ sym next) i ∷ [])
    ∙ sym (take-suc all row [] (omega (arith, within, length-map-range_with_len number_text first c.args.rows)))
    ∙ ap (λ n. take n all) (let e : suc row ≡ row + 1 = omega arith in e)

pub returns : goal.returns
returns c =
    let all = map number_text (range_with_len c.first_number-first.result c.args.rows) in
    c.loop-row.invariant
    ∙ ap (λ n. take n all) (let e : c.loop-row.row ≡ length all = omega (arith, c.loop-row-test.false, c.loop-row.auto.row-end, length-map-range_with_len number_text c.first_number-first.result c.args.rows) in e)
    ∙ take-length all ∙ ap (λ first. map number_text (range_with_len first c.args.rows)) c.first_number-first.ensures.same

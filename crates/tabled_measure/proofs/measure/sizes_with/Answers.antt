-- Each column is as wide as it was, or as the row's cell asks.
use Rattle.std.proofs.Common.{◌≡◌, ◌<◌, ℕ, List, max, map, length, drop, get_or, string_bytes, sym, ap, ◌∙◌, arith}
use Rattle.std.proofs.lemmas.List.{length-map, take_at}
use Rattle.std.proofs.lemmas.List.FromFn.{get_or-map-range_with_len, length-map-range_with_len, fill_by_all}
use Rattle.tabled_object.specs.Entities.{below}
use Rattle.tabled_measure.specs.Sizes.{cell, width_asked}
use Rattle.tabled_measure.proofs.measure.sizes_with.Goals as goal

pub returns-clause-widths : goal.returns-clause-widths
returns-clause-widths c =
    let row = c.args.row.now in
    let old = c.args.widths.now in
    let count = length row in
    let cells = map string_bytes row in
    let begun = c.deref_mut.ensures.value ∙ c.in_ok-wider.ensures in
    let long : length c.widen.new.widths ≡ count = c.widen.auto.widths ∙ ap length begun ∙ length-map-range_with_len (λ (n : ℕ). get_or old n 0) 0 count in
    take_at c.widen.new.widths (drop (length c.widen.new.widths) c.in_ok-wider.wider.items) c.in_ok-wider.wider.len (c.widen.auto.widths ∙ c.deref_mut.ensures.len)
    ∙ fill_by_all (λ (col : ℕ). max (get_or old col 0) (width_asked (cell cells col))) c.widen.new.widths count 0 long
    (λ col inside.
    let within : col < count = inside in
    c.in_ok-are_printable.ensures.widths col (omega (arith, inside, long))
    ∙ ap (λ (n : ℕ). max n (width_asked (cell cells col))) (ap (λ (widths : List ℕ). get_or widths col 0) begun ∙ get_or-map-range_with_len (λ (n : ℕ). get_or old n 0) 0 count col col 0 within (omega arith)))
    ∙ ap (λ (n : ℕ). map (λ (col : ℕ). max (get_or old col 0) (width_asked (cell cells col))) (below n)) (sym (length-map row string_bytes))

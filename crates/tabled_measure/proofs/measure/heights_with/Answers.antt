-- Row by row.
use Rattle.std.proofs.Common.{rules, tests, length, max, map, slice_index, string_bytes, arith}
use Rattle.std.proofs.lemmas.Iterator.{YieldsList-from_map, YieldsList-from_range, items_from_collect}
use Rattle.std.proofs.lemmas.List.{length-map}
use Rattle.tabled_measure.specs.Sizes.{cell, height_asked}
use Rattle.tabled_measure.proofs.measure.heights_with.Goals as goal

pub returns : goal.returns
returns c =
    let column = map string_bytes c.args.column.now in
    items_from_collect _ c.collect.ensures.ran (YieldsList-from_map _ (λ row. max (slice_index c.args.heights.now row) (height_asked (cell column row)))
    (YieldsList-from_range 0 (length c.args.column.now) (length column) c.map.ensures.source (let long = length-map c.args.column.now string_bytes in omega (arith, long))) c.map.ensures.closure (λ x r q k. search (rules, tests)))

-- Printable texts make a row of one line.
use Rattle.std.proofs.Common.{◌<◌, [], ap, ◌∙◌, map, length, arith}
use Rattle.std.proofs.lemmas.Bool.Decides.{nat_tests}
use Rattle.std.proofs.lemmas.List.{length-map, get_or_default}
use Rattle.tabled_measure.specs.Sizes.{cell, height_asked}
use Rattle.tabled_measure.proofs.Measuring.{one_high, printable_line}
use Rattle.tabled_measure.proofs.measure.height_of.Goals as goal

pub returns-then-not-is_empty : goal.returns-then-not-is_empty
returns-then-not-is_empty g c =
    let row = c.args.row.now in
    let counted = length-map row g.T.AsStr.text in
    let some : 0 < length row = grind (arith, nat_tests, c.is_empty.ensures, c.if-not-is_empty.true) in
    one_high (map g.T.AsStr.text row) (omega (arith, counted, some)) (λ col none inside. ap height_asked (get_or_default (map g.T.AsStr.text row) col none [] inside) ∙ printable_line (cell (map g.T.AsStr.text row) col) (c.requires c.if-are_printable.true col))

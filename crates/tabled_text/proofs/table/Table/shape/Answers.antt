-- There are as many rows as texts of rows, and as many columns as widths.
use Rattle.std.proofs.Common.{◌≡◌, length, map, ap, ◌∙◌, arith}
use Rattle.std.proofs.lemmas.List.{length-map}
use Rattle.tabled_cells.specs.TextsBy.{texts_by}
use Rattle.tabled_measure.specs.Sizes.{column_count}
use Rattle.tabled_text.specs.TextTable.{shape_of}
use Rattle.tabled_measure.proofs.Widths.{count_widths}
use Rattle.tabled_text.proofs.table.Table.shape.Goals as goal

pub returns : goal.returns
returns g c =
    let table = texts_by g.T.AsStr.text c.self.inside.cells.items in
    let rows : c.len.result ≡ length table = let long = length-map c.self.inside.cells.items (λ row. map g.T.AsStr.text row.items) in omega (arith, long, c.len.ensures) in
    let cols : c.len-2.result ≡ column_count table = let wide = ap length c.self.invariant.1 ∙ count_widths table in omega (arith, wide, c.len-2.ensures) in
    (λ i. record { rows = rows i; cols = cols i }) ∙ ap (λ drawing. shape_of drawing.texts) c.self.view_is

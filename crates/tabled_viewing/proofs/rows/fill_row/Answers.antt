-- The row is full at the end.
use Rattle.std.proofs.Common.{◌≡◌, ◌-◌, [], ◌++◌, length, replicate, ap, ◌∙◌, arith}
use Rattle.std.proofs.lemmas.List.{length-map}
use Rattle.tabled_printing.specs.Pieces.{lent}
use Rattle.tabled_rows.specs.Rows.{filled_to}
use Rattle.tabled_viewing.proofs.rows.fill_row.Goals as goal

pub returns : goal.returns
unfolding filled_to
returns c =
    let long = length-map c.args.row.now.items (λ text. text.now) in
    let count : c.loop.counter ≡ c.args.width - length (lent c.args.row.now.items) = omega (arith, long) in
    c.loop.invariant ∙ ap (λ n. lent c.args.row.now.items ++ replicate n []) count

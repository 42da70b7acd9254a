-- The row is full at the end.
use Rattle.std.proofs.Common.{◌≡◌, ◌-◌, ℕ, [], ◌++◌, map, length, replicate, string_bytes, Global, ap, ◌∙◌, arith}
use Rattle.std.proofs.lemmas.List.{length-map}
use Rattle.tabled_rows.specs.Rows.{filled_to}
use Rattle.tabled_rows.proofs.columns.fill.Goals as goal

pub returns-clause-texts : goal.returns-clause-texts
unfolding filled_to
returns-clause-texts c =
    let long = length-map c.args.row.now.items (string_bytes {Z = Global}) in
    let count : c.loop.counter ≡ c.args.width - length (map string_bytes c.args.row.now.items) = omega (arith, long) in
    c.loop.invariant.texts ∙ ap (λ (n : ℕ). map string_bytes c.args.row.now.items ++ replicate n []) count

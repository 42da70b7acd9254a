-- The lines of the first row, of the sides and of the other rows.
use Rattle.std.proofs.Common.{Global, List, Vec, map, string_bytes, ap, ℕ}
use lib.Utf8.{encode}
use Rattle.tabled_markdown.proofs.Lines.{none_put, table_put}
use Rattle.tabled_markdown.proofs.table.put_table.Goals as goal

pub returns-in_ok-put_rows-in-Some : goal.returns-in_ok-put_rows-in-Some
unfolding encode
returns-in_ok-put_rows-in-Some g c =
    let texts : Vec g.row.T.Denot Global → List (List ℕ) = λ row. map g.T.AsStr.text row.items in
    table_put texts c.args.count c.args.sides.now c.args.rows.now c.in-Some.first.now c.in-Some.others.now (map g.T.AsStr.text c.deref.result.now) (string_bytes c.args.text.now) _ _ _ _ c.in-Some.ensures.cases.0
    (ap (map g.T.AsStr.text) c.deref.ensures.value) c.in_ok-put_row-in-Some.ensures c.in_ok-push-in-Some.ensures.bytes c.in_ok-put_sides-in-Some.ensures c.in_ok-put_rows-in-Some.ensures

pub returns-in-None : goal.returns-in-None
returns-in-None g c =
    let texts : Vec g.row.T.Denot Global → List (List ℕ) = λ row. map g.T.AsStr.text row.items in
    none_put texts c.args.count c.args.sides.now c.args.rows.now (string_bytes c.args.text.now) c.in-None.ensures.cases

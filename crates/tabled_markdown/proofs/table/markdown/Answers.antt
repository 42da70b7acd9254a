-- What was put is read as the rows and the sides.
use Rattle.std.proofs.Common.{◌++◌, map, ap, ◌∙◌}
use Rattle.std.proofs.lemmas.List.{length-map}
use Rattle.tabled_markdown.specs.Reading.{read_rows, read_sides}
use Rattle.tabled_markdown.specs.Table.{markdown}
use Rattle.tabled_markdown.proofs.Rows.{rows_read_back, sides_read_back}
use Rattle.tabled_markdown.proofs.table.markdown.Goals as goal

pub returns-clause-text : goal.returns-clause-text
returns-clause-text g c =
    c.in_ok-put_table.ensures
    ∙ ap (λ bs. bs ++ markdown c.args.count c.args.sides.now (map (λ row. map g.T.AsStr.text row.items) c.args.rows.now)) c.new-text.ensures.bytes

pub returns-clause-rows_read : goal.returns-clause-rows_read
returns-clause-rows_read g c = ap read_rows (returns-clause-text g c) ∙ rows_read_back c.args.count c.args.sides.now (map (λ row. map g.T.AsStr.text row.items) c.args.rows.now)

pub returns-clause-sides_read : goal.returns-clause-sides_read
returns-clause-sides_read g c some = ap read_sides (returns-clause-text g c) ∙ sides_read_back c.args.count c.args.sides.now (map (λ row. map g.T.AsStr.text row.items) c.args.rows.now) (simp length-map some)

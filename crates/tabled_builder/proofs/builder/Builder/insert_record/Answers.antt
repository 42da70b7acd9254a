-- The record stands at its index, or at the end.
use Rattle.std.proofs.Common.{ℕ, map, String, string_bytes, Global, ap, ◌∙◌, arith}
use Rattle.std.specs.declared.vec.Vec.{Vec}
use Rattle.std.specs.List.{insert}
use Rattle.tabled_width.specs.Texts.{Table, texts}
use Rattle.tabled_rows.proofs.RowLemmas.{insert-map, insert-min}
use Rattle.tabled_builder.proofs.builder.Builder.insert_record.Goals as goal

pub returns-clause-inserted : goal.returns-clause-inserted
returns-clause-inserted c =
    let old = c.self.inside.records.items in
    ap texts (c.in_ok-insert.ensures.items
    ∙ ap (λ (at : ℕ). insert old at c.args.row) c.min-at.ensures
    ∙ insert-min old c.args.index c.len.result c.args.row (omega (arith, c.len.ensures)))
    ∙ insert-map (λ (row : Vec (String Global) Global). map string_bytes row.items) old c.args.index c.args.row
    ∙ ap (λ (table : Table). insert table c.args.index (map string_bytes c.args.row.items)) c.self.view_is

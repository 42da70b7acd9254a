-- The record that stood there is gone, and is given.
use Rattle.std.proofs.Common.{◌≡◌, map, length, String, string_bytes, Global, Some, option_map, sym, ap, ◌∙◌, arith}
use Rattle.std.specs.declared.vec.Vec.{Vec}
use Rattle.std.specs.List.{remove, slice_get}
use Rattle.std.proofs.lemmas.Option.{slice_get-map, slice_get_read}
use Rattle.tabled_width.specs.Texts.{Table, texts}
use Rattle.tabled_rows.proofs.RowLemmas.{remove-map}
use Rattle.tabled_builder.proofs.builder.Builder.remove_record.Goals as goal

pub returns-clause-removed : goal.returns-clause-removed
returns-clause-removed c =
    ap texts c.remove.ensures.items
    ∙ remove-map (λ (row : Vec (String Global) Global). map string_bytes row.items) c.self.inside.records.items c.args.index
    ∙ ap (λ (table : Table). remove table c.args.index) c.self.view_is

pub returns-clause-record : goal.returns-clause-record
returns-clause-record c =
    let rows = c.self.inside.records.items in
    let row = c.remove.result in
    let there : slice_get rows c.args.index ≡ Some row = slice_get_read rows (length rows) c.args.index row (λ _. length rows) (omega arith) c.remove.ensures.value in
    ap (option_map (λ (one : Vec (String Global) Global). map string_bytes one.items)) (sym there)
    ∙ sym (slice_get-map (λ (one : Vec (String Global) Global). map string_bytes one.items) rows c.args.index)
    ∙ ap (λ (table : Table). slice_get table c.args.index) c.self.view_is

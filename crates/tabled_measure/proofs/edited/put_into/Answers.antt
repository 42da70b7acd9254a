-- The rows, and those that were missing, have the column.
use Rattle.std.proofs.Common.{◌≡◌, ◌-◌, ◌++◌, ℕ, List, [], map, length, drop, replicate, String, Global, string_bytes, ap, ◌∙◌, arith}
use Rattle.std.specs.declared.vec.Vec.{Vec}
use Rattle.std.proofs.lemmas.List.{length-map, map-append, take_at}
use Rattle.tabled_width.specs.Texts.{texts}
use Rattle.tabled_rows.specs.Rows.{column_put}
use Rattle.tabled_measure.proofs.ColumnLemmas.{column-put}
use Rattle.tabled_measure.proofs.edited.put_into.Goals as goal

pub returns-clause-texts : goal.returns-clause-texts
returns-clause-texts c =
    let text_of : Vec (String Global) Global → List (List ℕ) = λ row. map string_bytes row.items in
    let old = c.args.rows.now.items in
    let column = map (string_bytes {Z = Global}) c.args.column.items in
    let kept = take_at c.put_column.new.rows (drop (length c.put_column.new.rows) c.append.new.self.items) c.append.new.self.len (c.put_column.auto.rows ∙ c.deref_mut-2.ensures.len) in
    let reserved = take_at c.reserve_column.new.rows (drop (length c.reserve_column.new.rows) c.reserve.new.self.items) c.reserve.new.self.len (c.reserve_column.auto.rows ∙ c.deref_mut.ensures.len) in
    let before : texts c.reserve_column.new.rows ≡ texts old = c.in_ok-reserve_column.ensures.texts ∙ ap texts (c.deref_mut.ensures.value ∙ c.in_ok-reserve.ensures.items) in
    let missing : c.saturating_sub-missing.result ≡ length column - length (texts old) =
    let one = length-map c.args.column.items (string_bytes {Z = Global}) in let other = length-map old text_of in omega (arith, one, other, c.saturating_sub-missing.ensures, c.len.ensures, c.len-2.ensures) in
    let padded : texts c.deref_mut-2.result.now ≡ texts old ++ replicate (length column - length (texts old)) [] =
    ap texts (c.deref_mut-2.ensures.value ∙ c.in_ok-append.ensures.items ∙ ap (λ (rows : List (Vec (String Global) Global)). rows ++ c.in_ok-added.added.items) reserved)
    ∙ map-append text_of c.reserve_column.new.rows c.in_ok-added.added.items
    ∙ (λ i. before i ++ (c.in_ok-added.ensures.texts ∙ ap (λ (n : ℕ). replicate n []) missing) i) in
    ap texts kept ∙ c.put_column.ensures ∙ ap (column_put 0 c.args.index column) padded ∙ column-put c.args.index column (texts old) c.requires

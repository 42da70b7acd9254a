-- One row more.
use Rattle.std.proofs.Common.{◌≡◌, ◌+◌, ◌∷◌, ◌++◌, List, [], map, take, String, string_bytes, Global, sym, ap, subst, ◌∙◌, arith}
use Rattle.std.specs.declared.vec.Vec.{Vec}
use Rattle.std.specs.List.{AllZip}
use Rattle.std.proofs.lemmas.List.{map-append, take_all}
use Rattle.tabled_width.specs.Texts.{Table, texts}
use Rattle.tabled_rows.specs.Spelled.{IsRow}
use Rattle.tabled_rows.proofs.SpelledLemmas.{one-row-more}
use Rattle.tabled_text.proofs.text_table.making.rows_of.Goals as goal

texts-push : (rows : List (Vec (String Global) Global)) (row : Vec (String Global) Global) → texts (rows ++ row ∷ []) ≡ texts rows ++ map string_bytes row.items ∷ []
texts-push rows row = map-append (λ (one : Vec (String Global) Global). map string_bytes one.items) rows (row ∷ [])

pub loop-value-init : goal.loop-value-init
loop-value-init g c =
    let header = g.T.Tabled.known_headers in
    subst (λ (rows : Table). AllZip IsRow (header ∷ []) rows)
    (sym (ap texts (c.in_ok-push.ensures.items ∙ ap (λ (rows : List (Vec (String Global) Global)). rows ++ c.in_ok-headers.field-0 ∷ []) c.new-rows.ensures.items)))
    (c.in_ok-headers.ensures, tt)

pub loop-value-preserved : goal.loop-value-preserved
loop-value-preserved g c =
    let header = g.T.Tabled.known_headers in
    let known = g.T.Tabled.known_fields in
    subst (λ (rows : Table). AllZip IsRow (header ∷ map known (take (c.loop-value.value-index + 1) c.args.values.now)) rows)
    (sym (ap texts c.in_ok-push-2.ensures.items ∙ texts-push c.loop-value.rows.items c.in_ok-fields.field-0))
    (one-row-more header known c.args.values.now c.loop-value.value-index c.value-item.result (texts c.loop-value.rows.items) (map string_bytes c.in_ok-fields.field-0.items) c.loop-value-test.true c.loop-value.invariant
    (subst (λ value. IsRow (known value) (map string_bytes c.in_ok-fields.field-0.items)) c.value-item.is c.in_ok-fields.ensures))

pub returns : goal.returns
returns g c =
    subst (λ values. AllZip IsRow (g.T.Tabled.known_headers ∷ map g.T.Tabled.known_fields values) (texts c.loop-value.rows.items)) (take_all c.loop-value.value-index c.args.values.now (omega arith)) c.loop-value.invariant

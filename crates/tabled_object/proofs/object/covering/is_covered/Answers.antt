use Rattle.std.proofs.Common.{◌∷◌, [], sym, ◌∙◌, rules, tests}
use Rattle.std.proofs.lemmas.Iterator.{YieldsList-from_slice}
use Rattle.std.proofs.lemmas.Iterator.Search.{any_from_yields_List}
use Rattle.tabled_object.specs.declared.entity.Entity.TheVariants.{Global, Column, Row, Cell}
use Rattle.tabled_object.proofs.Coverings.{has, covered_by}
use Rattle.tabled_object.proofs.object.covering.is_covered.Goals as goal

pub returns : goal.returns
returns c =
    let keys = c.args.entities.now.keys in
    let cell = c.args.cell in
    any_from_yields_List (has keys) _ _ c.any.result c.any.ensures.ran (YieldsList-from_slice (Global ∷ Column cell.col ∷ Row cell.row ∷ Cell cell.row cell.col ∷ []) (cc)) (λ x b q k. search (rules, tests))
    ∙ sym (covered_by keys cell)

-- The columns are tried one after the other.
use Rattle.std.proofs.Common.{rules, tests, refl, map, ◌∙◌, arith}
use Rattle.std.proofs.lemmas.Iterator.{YieldsList-from_range}
use Rattle.std.proofs.lemmas.Iterator.Search.{any_from_yields_List}
use Rattle.tabled_request.specs.Columns.{has_heading}
use Rattle.tabled_request.proofs.KeptColumns.{any_headed}
use Rattle.tabled_request.proofs.columns.is_heading.Goals as goal

pub returns : goal.returns
returns g c =
    any_from_yields_List (has_heading (map g.T.AsStr.text c.args.headings.now) c.args.text.now) _ _ _ c.any.ensures.ran (YieldsList-from_range 0 c.min.result c.min.result refl (omega arith))
    (λ x b q k. search (rules, tests))
    ∙ any_headed g.T.AsStr.text c.args.headings.now c.args.text.now c.min.result c.args.count c.min.ensures

-- The highest cell is found by a walk over the cells.
use Rattle.std.proofs.Common.{rules, tests, map, unwrap_or, ap, sym, ◌∙◌}
use Rattle.std.proofs.lemmas.Iterator.{YieldsList-from_map, YieldsList-from_slice}
use Rattle.std.proofs.lemmas.Iterator.Adapters.{option_map_id}
use Rattle.std.proofs.lemmas.Iterator.Consumers.{max_from_yields_List}
use Rattle.tabled_measure.specs.Sizes.{height_asked, row_height}
use Rattle.tabled_cells.specs.Placed.{greatest}
use Rattle.tabled_measure.proofs.Measuring.{greatest_found}
use Rattle.tabled_measure.proofs.Widths.{mapped_twice}
use Rattle.tabled_measure.proofs.measure.row_height.Goals as goal

pub returns : goal.returns
unfolding row_height
returns g c =
    c.unwrap_or.ensures
    ∙ ap (λ found. unwrap_or found 0) (sym (option_map_id c.max.result)
    ∙ max_from_yields_List c.map.result c.max.result c.max.ensures.ran
    (YieldsList-from_map _ (λ text. height_asked (g.T.AsStr.text text)) (YieldsList-from_slice c.args.row.now cc) c.map.ensures.closure (λ x r q k. search (rules, tests))))
    ∙ greatest_found (map (λ text. height_asked (g.T.AsStr.text text)) c.args.row.now)
    ∙ ap greatest (mapped_twice height_asked g.T.AsStr.text c.args.row.now)

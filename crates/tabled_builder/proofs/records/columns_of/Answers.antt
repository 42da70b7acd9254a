-- The longest record is found by a walk over the records.
use Rattle.std.proofs.Common.{rules, tests, map, unwrap_or, ap, sym, ◌∙◌, vec_len}
use Rattle.std.proofs.lemmas.Iterator.{YieldsList-from_map, YieldsList-from_slice}
use Rattle.std.proofs.lemmas.Iterator.Adapters.{option_map_id}
use Rattle.std.proofs.lemmas.Iterator.Consumers.{max_from_yields_List}
use Rattle.tabled_cells.specs.Placed.{greatest}
use Rattle.tabled_measure.proofs.Measuring.{greatest_found}
use Rattle.tabled_builder.proofs.RecordLemmas.{lengths}
use Rattle.tabled_builder.proofs.records.columns_of.Goals as goal

pub returns : goal.returns
returns g c =
    c.unwrap_or.ensures
    ∙ ap (λ found. unwrap_or found 0) (sym (option_map_id c.max.result)
    ∙ max_from_yields_List c.map.result c.max.result c.max.ensures.ran
    (YieldsList-from_map _ vec_len (YieldsList-from_slice c.args.records.now cc) c.map.ensures.closure (λ x r q k. search (rules, tests))))
    ∙ greatest_found (map vec_len c.args.records.now)
    ∙ ap greatest (lengths g.T.AsStr.text c.args.records.now)

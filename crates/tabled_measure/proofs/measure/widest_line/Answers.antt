-- The widest line is found by a walk over the lines.
use Rattle.std.proofs.Common.{rules, tests, map, unwrap_or, ap, sym, ◌∙◌, lit<}
use Rattle.std.proofs.lemmas.Iterator.{YieldsList-from_map}
use Rattle.std.proofs.lemmas.Iterator.Adapters.{option_map_id}
use Rattle.std.proofs.lemmas.Iterator.Consumers.{max_from_yields_List}
use Rattle.std.proofs.lemmas.Iterator.Splits.{YieldsList-from_str_split}
use Rattle.tabled_width.specs.Texts.{pieces, width_of_text}
use Rattle.tabled_measure.proofs.Measuring.{greatest_found}
use Rattle.tabled_measure.proofs.measure.widest_line.Goals as goal

pub returns : goal.returns
returns c =
    c.unwrap_or.ensures
    ∙ ap (λ found. unwrap_or found 0) (sym (option_map_id c.max.result)
    ∙ max_from_yields_List c.map.result c.max.result c.max.ensures.ran
    (YieldsList-from_map _ width_of_text (YieldsList-from_str_split 10 c.args.text.now (lit< tt) (cc) (cc) (cc)) c.map.ensures.closure (λ x r q k. search (rules, tests))))
    ∙ greatest_found (map width_of_text (pieces c.args.text.now))

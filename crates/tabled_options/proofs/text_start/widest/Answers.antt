-- The widest of the pieces is found by a walk over them.
use Rattle.std.proofs.Common.{◌≡◌, ℕ, max, List, [], ◌∷◌, map, fold, unwrap_or, refl, ap, sym, ◌∙◌, lit<, rules, tests, arith}
use Rattle.std.specs.List.{reduce}
use Rattle.std.proofs.lemmas.Iterator.{YieldsList-from_map}
use Rattle.std.proofs.lemmas.Iterator.Adapters.{option_map_id}
use Rattle.std.proofs.lemmas.Iterator.Consumers.{max_from_yields_List}
use Rattle.std.proofs.lemmas.Iterator.Splits.{YieldsList-from_str_split}
use Rattle.std.proofs.lemmas.List.Folds.{fold-map}
use Rattle.tabled_width.specs.Texts.{pieces, width_of_text}
use Rattle.tabled_options.proofs.text_start.widest.Goals as goal

greatest : (ns : List ℕ) → unwrap_or (reduce max ns) 0 ≡ fold max 0 ns
greatest [] = refl
greatest (n ∷ ns) = let same : n ≡ max 0 n = omega arith in ap (λ m. fold max m ns) same

pub returns : goal.returns
returns c =
    c.unwrap_or.ensures
    ∙ ap (λ found. unwrap_or found 0) (sym (option_map_id c.max.result)
    ∙ max_from_yields_List c.map.result c.max.result c.max.ensures.ran
    (YieldsList-from_map _ width_of_text (YieldsList-from_str_split 10 c.args.text.now (lit< tt) (cc) (cc) (cc)) c.map.ensures.closure (λ x r q k. search (rules, tests))))
    ∙ greatest (map width_of_text (pieces c.args.text.now))
    ∙ fold-map max width_of_text 0 (pieces c.args.text.now)

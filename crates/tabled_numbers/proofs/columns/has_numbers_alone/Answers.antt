-- The rows are gone through, each by its texts.
use Rattle.std.proofs.Common.{rules, tests, Bool, List, ℕ, map, sym, ◌∙◌}
use Rattle.std.proofs.lemmas.Iterator.{YieldsList-from_slice}
use Rattle.std.proofs.lemmas.Iterator.Search.{all_from_yields_List}
use Rattle.std.proofs.lemmas.List.Folds.{list_all-map}
use Rattle.tabled_numbers.specs.Columns.{cell, is_number_or_none}
use Rattle.tabled_numbers.proofs.columns.has_numbers_alone.Goals as goal

pub returns : goal.returns
returns g c =
    let passes : List (List ℕ) → Bool = λ row. is_number_or_none (cell row c.args.col) in
    all_from_yields_List (λ row. passes (map g.T.AsStr.text row.items)) _ _ _ c.all.ensures.ran (YieldsList-from_slice c.args.rows.now cc) (λ x b q k. search (rules, tests))
    ∙ sym (list_all-map passes (λ row. map g.T.AsStr.text row.items) c.args.rows.now)

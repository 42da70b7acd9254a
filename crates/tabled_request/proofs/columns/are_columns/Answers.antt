-- Each part is tried.
use Rattle.std.proofs.Common.{rules, tests, lit<}
use Rattle.std.proofs.lemmas.Iterator.Search.{all_from_yields_List}
use Rattle.std.proofs.lemmas.Iterator.Splits.{YieldsList-from_str_split}
use Rattle.tabled_request.specs.Columns.{are_columns, is_part}
use Rattle.tabled_request.proofs.columns.are_columns.Goals as goal

pub returns : goal.returns
unfolding are_columns
returns c =
    all_from_yields_List is_part _ _ _ c.all.ensures.ran (YieldsList-from_str_split 44 c.args.word.now (lit< tt) (cc) (cc) (cc)) (λ x b q k. search (rules, tests))

-- The parts are tried one after the other.
use Rattle.std.proofs.Common.{rules, tests, ◌==◌, length, lit<, map}
use Rattle.std.proofs.lemmas.Iterator.Search.{position_from_yields_List}
use Rattle.std.proofs.lemmas.Iterator.Splits.{YieldsList-from_str_split}
use Rattle.tabled_request.specs.Columns.{columns_of_part, unknown_part}
use Rattle.tabled_request.proofs.columns.unknown_part.Goals as goal

pub returns : goal.returns
unfolding unknown_part
returns g c =
    position_from_yields_List (λ part. length (columns_of_part (map g.T.AsStr.text c.args.headings.now) c.args.count part) == 0) _ _ c.position.result c.position.ensures.ran
    (YieldsList-from_str_split 44 c.args.word.now (lit< tt) (cc) (cc) (cc)) (λ x b q k. search (rules, tests))

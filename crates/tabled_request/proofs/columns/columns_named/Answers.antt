-- At the end all parts were cut off.
use Rattle.std.proofs.Common.{map, ap, lit<, ◌∙◌}
use Rattle.std.specs.List.{flat_map}
use Rattle.std.proofs.lemmas.Iterator.Consumers.{YieldsList-end}
use Rattle.std.proofs.lemmas.Iterator.Splits.{YieldsList-from_str_split}
use Rattle.tabled_request.specs.Columns.{columns_named, columns_of_part}
use Rattle.tabled_request.proofs.columns.columns_named.Goals as goal

pub returns : goal.returns
unfolding columns_named
returns g c =
    c.loop-part.invariant
    ∙ ap (flat_map (columns_of_part (map g.T.AsStr.text c.args.headings.now) c.args.count))
    (YieldsList-end (YieldsList-from_str_split 44 c.args.word.now (lit< tt) (cc) (cc) (cc)) c.loop-part.yielded _ c.loop-part.yielded_by _ _ c.in-None.is c.next.ensures.steps).0

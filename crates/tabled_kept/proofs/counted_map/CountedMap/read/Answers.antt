use Rattle.std.proofs.Common.{sym, ap}
use Rattle.tabled_kept.specs.Table.{table}
use Rattle.tabled_kept.proofs.EmptyMaps.{none_under, of_none}
use Rattle.tabled_kept.proofs.counted_map.CountedMap.read.Goals as goal

pub returns-in-None-clause-value : goal.returns-in-None-clause-value
returns-in-None-clause-value g c = sym (none_under _ (ap (table g.K.Ord.cmp) (of_none _ _ _ c.self.view_is c.in-None.is)) c.args.key)

use Rattle.std.proofs.Common.{ap}
use Rattle.tabled_kept.specs.Table.{table}
use Rattle.tabled_kept.proofs.EmptyMaps.{none_under, of_none}
use Rattle.tabled_kept.proofs.counted_map.CountedMap.first_from.Goals as goal

pub returns-in-None-clause-first : goal.returns-in-None-clause-first
returns-in-None-clause-first g c key from = none_under _ (ap (table g.K.Ord.cmp) (of_none _ _ _ c.self.view_is c.in-None.is)) key

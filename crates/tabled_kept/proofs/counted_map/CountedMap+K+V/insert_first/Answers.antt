use Rattle.tabled_kept.proofs.EmptyMaps.{none_under, few_of_none}
use Rattle.tabled_kept.proofs.counted_map.CountedMap+K+V.insert_first.Goals as goal

pub returns-in_err-new-clause-absent : goal.returns-in_err-new-clause-absent
returns-in_err-new-clause-absent g c = none_under _ c.requires c.args.key

pub returns-in_err-new-clause-few : goal.returns-in_err-new-clause-few
returns-in_err-new-clause-few g c = few_of_none _ c.requires

pub returns-clause-absent : goal.returns-clause-absent
returns-clause-absent g c = none_under _ c.requires c.args.key

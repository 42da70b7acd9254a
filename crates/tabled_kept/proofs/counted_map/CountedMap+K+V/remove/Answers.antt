use Rattle.std.proofs.Common.{sym, ap, ◌∙◌}
use Rattle.tabled_kept.specs.Table.{table}
use Rattle.tabled_kept.proofs.EmptyMaps.{none_under, few_of_none, none_taken, of_none}
use Rattle.tabled_kept.proofs.counted_map.CountedMap+K+V.remove.Goals as goal

pub returns-in_default-clause-before : goal.returns-in_default-clause-before
returns-in_default-clause-before g c = sym (none_under _ (ap (table g.K.Ord.cmp) (of_none _ _ _ c.self.view_is c.in_default.is)) c.args.key)

pub returns-in_default-clause-removed : goal.returns-in_default-clause-removed
returns-in_default-clause-removed g c =
    ap (table g.K.Ord.cmp) c.self.view_is ∙ none_taken g.met.K.Ord.total g.met.K.Key.exact _ (ap (table g.K.Ord.cmp) (of_none _ _ _ c.self.view_is c.in_default.is)) c.args.key

pub returns-in_default-clause-few : goal.returns-in_default-clause-few
returns-in_default-clause-few g c = few_of_none _ (ap (table g.K.Ord.cmp) (c.self.view_is ∙ of_none _ _ _ c.self.view_is c.in_default.is))

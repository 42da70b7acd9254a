use Rattle.std.proofs.Common.{sym, ap, ◌∙◌, nat_cmp}
use Rattle.std.specs.FinMap as map
use Rattle.tabled_kept.specs.Table.{table}
use Rattle.std.specs.Cmp.{nat_cmp_total}
use Rattle.tabled_kept.proofs.Ascending.{none_ascend, none_listed}
use Rattle.tabled_kept.proofs.EmptyMaps.{of_none}
use Rattle.tabled_kept.proofs.numbered.CountedMap+usize+V.iter.Goals as goal

pub returns-in_default-clause-entries : goal.returns-in_default-clause-entries
returns-in_default-clause-entries g c = sym (ap (λ entries. map.entries (table nat_cmp entries)) (of_none _ _ _ c.self.view_is c.in_default.is) ∙ none_listed nat_cmp_total)

pub returns-in_default-clause-rising : goal.returns-in_default-clause-rising
returns-in_default-clause-rising g c = none_ascend nat_cmp

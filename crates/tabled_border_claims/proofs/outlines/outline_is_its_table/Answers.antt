use Rattle.tabled_object.specs.Listing.{listed}
use Rattle.tabled_highlight.proofs.OutlineLaws.{table_covered, table_kept, at_its_spots}
use Rattle.tabled_border_claims.proofs.EachOnce.{each_once}
use Rattle.tabled_border_claims.proofs.outlines.outline_is_its_table.Goals as goal

pub returns-clause-covered : goal.returns-clause-covered
returns-clause-covered g c = λ entities rows cols given spot. table_covered entities rows cols given spot

pub returns-clause-kept : goal.returns-clause-kept
returns-clause-kept g c = λ entities rows cols given spot. table_kept entities rows cols given spot

pub returns-clause-inside : goal.returns-clause-inside
returns-clause-inside g c = λ entities rows cols given site h. at_its_spots entities rows cols given site h

pub returns-clause-once : goal.returns-clause-once
returns-clause-once g c = λ entities rows cols given. each_once rows cols (listed entities rows cols) given

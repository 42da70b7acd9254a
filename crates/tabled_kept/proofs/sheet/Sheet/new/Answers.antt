use Rattle.tabled_kept.proofs.SheetLemmas.{parted_empty, sheet_empty}
use Rattle.tabled_kept.proofs.sheet.Sheet.new.Goals as goal

pub invariant_of-result : goal.invariant_of-result
invariant_of-result g c = parted_empty c.new.result c.new-2.result.entries c.new.ensures c.new-2.ensures.len

pub returns : goal.returns
returns g c = sheet_empty c.new.result c.new-2.result.entries c.new.ensures c.new-2.ensures.len

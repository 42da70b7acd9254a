use Rattle.tabled_kept.proofs.SheetLemmas.{parted_empty, sheet_empty}
use Rattle.tabled_kept.proofs.sheet.Sheet.clear.Goals as goal

pub invariant_of-self : goal.invariant_of-self
invariant_of-self g c = parted_empty c.clear.new.self c.clear-2.new.self.entries c.clear.ensures c.clear-2.ensures.len

pub returns : goal.returns
returns g c = sheet_empty c.clear.new.self c.clear-2.new.self.entries c.clear.ensures c.clear-2.ensures.len

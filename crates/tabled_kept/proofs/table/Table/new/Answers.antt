use Rattle.std.proofs.Common.{ap, ◌∙◌}
use Rattle.tabled_kept.specs.Slots.{in_rows}
use Rattle.tabled_kept.proofs.TableLemmas.{in_rows-nil}
use Rattle.tabled_kept.proofs.table.Table.new.Goals as goal

pub returns : goal.returns
returns g c = ap in_rows c.new.ensures.items ∙ in_rows-nil

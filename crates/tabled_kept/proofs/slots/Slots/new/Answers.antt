use Rattle.std.proofs.Common.{ap, ◌∙◌}
use Rattle.tabled_kept.specs.Slots.{filled}
use Rattle.tabled_kept.proofs.SlotLemmas.{filled-nil}
use Rattle.tabled_kept.proofs.slots.Slots.new.Goals as goal

pub returns : goal.returns
returns g c = ap filled c.new.ensures.items ∙ filled-nil

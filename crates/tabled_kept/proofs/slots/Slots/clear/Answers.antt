use Rattle.std.proofs.Common.{ap, ◌∙◌}
use Rattle.tabled_kept.specs.Slots.{filled}
use Rattle.tabled_kept.proofs.SlotLemmas.{filled-nil}
use Rattle.tabled_kept.proofs.slots.Slots.clear.Goals as goal

pub returns : goal.returns
returns g c = ap filled c.clear.ensures.items ∙ filled-nil

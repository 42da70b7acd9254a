-- The crossings so far.
use Rattle.std.proofs.Common.{◌≡◌, take}
use Rattle.std.specs.BTreeMap.{get}
use Rattle.std.specs.Option.{option_or}
use Rattle.tabled_object.specs.declared.position.Position.{Position}
use Rattle.tabled_layout.specs.Spans.{position_cmp}
use Rattle.tabled_correction.specs.Correction.{last_at}
use Rattle.tabled_correction.proofs.picture.put_all.Given as goal

abbrev pub invariant-loop-crossing : goal.invariant-loop-crossing
invariant-loop-crossing l = (crossing : Position) → get position_cmp l.written crossing ≡ option_or (last_at (take l.crossing-index l.writes) crossing) (get position_cmp l.initial.written crossing)

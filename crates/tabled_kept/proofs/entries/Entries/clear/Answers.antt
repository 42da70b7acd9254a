use Rattle.std.proofs.Common.{arith}
use Rattle.tabled_kept.proofs.KeptLemmas.{parted_none, empty_whole}
use Rattle.tabled_kept.specs.Slots.{slots_total}
use Rattle.tabled_kept.proofs.TableLemmas.{exact_slots}
use Rattle.tabled_kept.proofs.entries.Entries.clear.Goals as goal

pub invariant_of-self : goal.invariant_of-self
invariant_of-self g c = (parted_none slots_total exact_slots g.met.K.Ord.total g.met.K.Key.exact g.met.K.Key.back c.clear.new.self c.clear-2.new.self.entries c.clear.ensures c.clear-2.ensures.len, omega (arith, c.clear-2.ensures.len))

pub returns : goal.returns
returns g c =
    let dense = c.clear.new.self in
    let others = c.clear-2.new.self.entries in
    empty_whole slots_total exact_slots g.met.K.Ord.total g.met.K.Key.exact g.met.K.Key.back dense others (parted_none slots_total exact_slots g.met.K.Ord.total g.met.K.Key.exact g.met.K.Key.back dense others c.clear.ensures c.clear-2.ensures.len) c.clear.ensures c.clear-2.ensures.len

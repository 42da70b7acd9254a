use Rattle.std.proofs.Common.{arith}
use Rattle.tabled_kept.proofs.KeptLemmas.{parted_none, empty_whole}
use Rattle.tabled_kept.specs.Slots.{slots_total}
use Rattle.tabled_kept.proofs.TableLemmas.{exact_slots}
use Rattle.tabled_kept.proofs.entries.Entries.new.Goals as goal

pub invariant_of-result : goal.invariant_of-result
invariant_of-result g c = (parted_none slots_total exact_slots g.met.K.Ord.total g.met.K.Key.exact g.met.K.Key.back c.new.result c.new-2.result.entries c.new.ensures c.new-2.ensures.len, omega (arith, c.new-2.ensures.len))

pub returns : goal.returns
returns g c =
    let dense = c.new.result in
    let others = c.new-2.result.entries in
    empty_whole slots_total exact_slots g.met.K.Ord.total g.met.K.Key.exact g.met.K.Key.back dense others (parted_none slots_total exact_slots g.met.K.Ord.total g.met.K.Key.exact g.met.K.Key.back dense others c.new.ensures c.new-2.ensures.len) c.new.ensures c.new-2.ensures.len

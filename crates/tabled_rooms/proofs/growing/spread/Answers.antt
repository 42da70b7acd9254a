use Rattle.std.proofs.Common.{arith}
use Rattle.tabled_rooms.proofs.GrowLemmas.{all_shares}
use Rattle.tabled_rooms.proofs.growing.spread.Goals as goal

pub returns : goal.returns
returns c = all_shares c.loop-k.sizes c.args.sizes.now c.args.ask c.args.missing c.loop-k.k (omega arith) (omega arith) c.loop-k.invariant

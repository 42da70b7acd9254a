use Rattle.std.proofs.Common.{refl}
use Rattle.std.proofs.Math.Seq.{take-suc}
use Rattle.tabled_places.specs.Writes.{writes_made}
use Rattle.tabled_correction.proofs.Adding.{crossing_pushed}
use Rattle.tabled_correction.proofs.border_correction.push_all.Goals as goal

pub loop-crossing-preserved : goal.loop-crossing-preserved
unfolding writes_made
loop-crossing-preserved c =
    crossing_pushed (writes_made c.args.writes.now.items) c.loop-crossing.writes.items c.push.new.self.items c.args.crossings.now c.loop-crossing.crossing-index _ _ c.loop-crossing.invariant c.in_ok-push.ensures.items refl
    (take-suc c.args.crossings.now c.loop-crossing.crossing-index _ c.loop-crossing-test.true)

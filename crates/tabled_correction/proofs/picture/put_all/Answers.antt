use Rattle.std.proofs.Common.{◌≡◌, ℕ, suc, ◌+◌, arith, take, ap, ◌∙◌}
use Rattle.std.proofs.Math.Seq.{take-suc}
use Rattle.tabled_correction.proofs.Pictures.{one_more_crossing}
use Rattle.tabled_correction.proofs.picture.put_all.Goals as goal

next : (i : ℕ) → i + 1 ≡ suc i
next i = omega arith

pub loop-crossing-preserved : goal.loop-crossing-preserved
loop-crossing-preserved c =
    one_more_crossing (take c.loop-crossing.crossing-index c.args.writes.now) _ c.args.written.now c.loop-crossing.written c.insert.new.self _
    (ap (λ n. take n c.args.writes.now) (next c.loop-crossing.crossing-index) ∙ take-suc c.args.writes.now c.loop-crossing.crossing-index _ c.loop-crossing-test.true)
    c.loop-crossing.invariant c.in_ok-insert.ensures.updates.0

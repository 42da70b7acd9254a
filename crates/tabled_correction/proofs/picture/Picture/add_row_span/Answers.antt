use Rattle.std.proofs.Common.{◌+◌, ap}
use Rattle.tabled_object.specs.Entities.{position}
use Rattle.tabled_correction.specs.Correction.{row_step}
use Rattle.tabled_correction.specs.Picture.{pictured}
use Rattle.tabled_correction.proofs.Adding.{one_more}
use Rattle.tabled_correction.proofs.picture.Picture.add_row_span.Goals as goal

pub loop-k-preserved : goal.loop-k-preserved
loop-k-preserved c =
    one_more (λ k. row_step (pictured c.args.self.now) (position (c.args.position.row + 1 + k) c.args.position.col)) c.loop-k.k c.args.writes.now.items c.loop-k.writes.items c.add_row.new.writes.items _
    c.loop-k.invariant c.in_ok-add_row.ensures (ap (row_step (pictured c.args.self.now)) (λ i. record { row = c.new.ensures.row i; col = c.new.ensures.col i }))

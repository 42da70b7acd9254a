use Rattle.std.proofs.Common.{◌+◌, ◌==◌, ap}
use Rattle.tabled_object.specs.Entities.{position}
use Rattle.tabled_correction.specs.Correction.{column_step}
use Rattle.tabled_correction.specs.Picture.{pictured}
use Rattle.tabled_correction.proofs.Adding.{one_more}
use Rattle.tabled_correction.proofs.picture.Picture.add_column_span.Goals as goal

pub loop-k-preserved : goal.loop-k-preserved
loop-k-preserved c =
    one_more (λ k. column_step (pictured c.args.self.now) (k == 0) (position c.args.position.row (c.args.position.col + k))) c.loop-k.k c.args.writes.now.items c.loop-k.writes.items c.add_column.new.writes.items _
    c.loop-k.invariant c.in_ok-add_column.ensures (ap (column_step (pictured c.args.self.now) (c.loop-k.k == 0)) (λ i. record { row = c.new-cell.ensures.row i; col = c.new-cell.ensures.col i }))

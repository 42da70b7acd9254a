-- The mark, and then the run.
use Rattle.tabled_painting.proofs.FrameLemmas.{marks_painted}
use Rattle.tabled_painting.proofs.PainterLemmas.{on_done, paints_both, paints_same}
use Rattle.tabled_painting.proofs.painter.Painter.push_marks.Goals as goal

pub returns : goal.returns
returns g c =
    on_done c.push_times-2.result c.push_times-2.ensures
    (λ painted.
    paints_same g.O.Output.gains _ _ c.args.self.now _ (marks_painted c.args.mark c.args.run _ _ c.unwrap_or.ensures c.unwrap_or-2.ensures)
    (paints_both g.O.Output.gains g.met.O.Output.gains_both _ _ c.args.self.now c.push_times.new.self _ c.in_ok-push_times.ensures painted))

-- A run is its character, the given number of times.
use Rattle.std.proofs.Common.{subst}
use Rattle.tabled_painting.specs.InColor.{Paints}
use Rattle.tabled_painting.proofs.FrameLemmas.{run_painted}
use Rattle.tabled_painting.proofs.painter.PainterSink.put.Goals as goal

pub returns : goal.returns
returns g c = subst (λ line. Paints g.O.Output.gains line c.args.self.now c.push_times.new.self) (run_painted c.args.run c.unwrap_or.result c.unwrap_or.ensures) c.in_ok-push_times.ensures

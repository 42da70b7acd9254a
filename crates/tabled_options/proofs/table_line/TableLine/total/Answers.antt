-- One more piece, and the last crossing.
use Rattle.std.proofs.Common.{arith}
use Rattle.tabled_options.specs.Laying.{looked}
use Rattle.tabled_options.proofs.LineLemmas.{none_counted, piece_counted, line_counted}
use Rattle.tabled_options.proofs.table_line.TableLine.total.Goals as goal

pub loop-n-init : goal.loop-n-init
loop-n-init g c = none_counted (looked g.D.Dimension.width_of g.D.Dimension.height_of c.args.self.now) c.args.self.now.line

pub loop-n-preserved : goal.loop-n-preserved
loop-n-preserved g c =
    piece_counted (looked g.D.Dimension.width_of g.D.Dimension.height_of c.args.self.now) c.args.self.now.line c.loop-n.n c.loop-n.total c.crossing_count.result c.size.result c.saturating_add-places.result c.saturating_add-total.result
    c.loop-n.invariant c.crossing_count.ensures c.size.ensures c.saturating_add-places.ensures c.saturating_add-total.ensures

pub returns : goal.returns
returns g c =
    line_counted (looked g.D.Dimension.width_of g.D.Dimension.height_of c.args.self.now) c.args.self.now.line c.loop-n.n c.pieces-count.result c.loop-n.total c.crossing_count-2.result c.saturating_add.result
    (omega arith) c.pieces-count.ensures c.loop-n.invariant c.crossing_count-2.ensures c.saturating_add.ensures

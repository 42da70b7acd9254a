-- One more piece, and the last crossing.
use Rattle.std.proofs.Common.{arith}
use Rattle.tabled_options.specs.Laying.{looked}
use Rattle.tabled_options.proofs.LineLemmas.{nothing_passed, piece_passed, line_passed}
use Rattle.tabled_options.proofs.table_line.TableLine.lay.Goals as goal

pub loop-n-init : goal.loop-n-init
loop-n-init g c = nothing_passed (looked g.D.Dimension.width_of g.D.Dimension.height_of c.args.self.now) c.args.self.now.line c.args.pen.now

pub loop-n-preserved : goal.loop-n-preserved
loop-n-preserved g c =
    piece_passed (looked g.D.Dimension.width_of g.D.Dimension.height_of c.args.self.now) c.args.self.now.line c.loop-n.n c.args.pen.now c.loop-n.pen c.lay_crossing.new.pen c.lay_edge.new.pen
    c.loop-n.invariant c.in_ok-lay_crossing.ensures c.in_ok-lay_edge.ensures

pub returns : goal.returns
returns g c =
    line_passed (looked g.D.Dimension.width_of g.D.Dimension.height_of c.args.self.now) c.args.self.now.line c.lay_crossing-2.result c.loop-n.n c.pieces-count.result c.args.pen.now c.loop-n.pen c.lay_crossing-2.new.pen
    (omega arith) c.pieces-count.ensures c.loop-n.invariant c.lay_crossing-2.ensures

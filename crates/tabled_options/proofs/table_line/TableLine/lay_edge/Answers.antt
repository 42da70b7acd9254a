-- One more place, and the end, with letters left or without.
use Rattle.std.proofs.Common.{arith, sym, ◌∙◌, length, eqb-true}
use Rattle.tabled_printing.specs.LinePieces.{edge_of, piece_size}
use Rattle.tabled_options.proofs.PassingLemmas.{edge_begun, edge_more, edge_done, edge_empty}
use Rattle.tabled_options.proofs.table_line.TableLine.lay_edge.Goals as goal

pub loop-at-init : goal.loop-at-init
loop-at-init g c = c.pass_over-passed.ensures.passed _ (edge_begun (edge_of c.args.self.now.line c.args.n) c.pass_over-passed.result)

pub returns-then-is_empty : goal.returns-then-is_empty
returns-then-is_empty g c =
    edge_empty (edge_of c.args.self.now.line c.args.n) c.loop-at.at c.size-size.result c.pass_over-passed.result (piece_size (g.D.Dimension.width_of c.args.self.now.dims.now) (g.D.Dimension.height_of c.args.self.now.dims.now) c.args.self.now.line c.args.n) c.args.pen.now c.loop-at.pen
    c.pass_over-passed.ensures.count c.loop-at.auto.at c.loop-at-test.true c.size-size.ensures (eqb-true (length c.loop-at.pen.letters.now) 0 (sym c.is_empty.ensures ∙ c.if-is_empty.true)) c.loop-at.invariant

pub loop-at-preserved : goal.loop-at-preserved
loop-at-preserved g c =
    edge_more (edge_of c.args.self.now.line c.args.n) c.loop-at.at c.args.pen.now c.loop-at.pen c.pass.new.self c.loop-at.invariant
    (let one = c.in_ok-pass.ensures in rw c.edge_of.ensures at one)

pub returns : goal.returns
returns g c =
    edge_done (edge_of c.args.self.now.line c.args.n) c.loop-at.at c.size-size.result (piece_size (g.D.Dimension.width_of c.args.self.now.dims.now) (g.D.Dimension.height_of c.args.self.now.dims.now) c.args.self.now.line c.args.n) c.args.pen.now c.loop-at.pen
    (omega (arith, c.pass_over-passed.ensures.count)) c.size-size.ensures c.loop-at.invariant

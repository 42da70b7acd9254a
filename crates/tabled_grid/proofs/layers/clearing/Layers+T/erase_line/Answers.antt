use Rattle.std.proofs.Common.{◌≡◌, ap, sym, subst, ◌∙◌, arith}
use Rattle.tabled_places.specs.Calls.{spots_erased, edge_of, crossing_of, line_spots}
use Rattle.tabled_places.specs.Event.{Changes}
use Rattle.tabled_places.specs.State.{state_at}
use Rattle.tabled_places.proofs.Clearing.{named_spot, none_so_far, one_further, line_closed}
use Rattle.tabled_grid.proofs.layers.clearing.Layers+T.erase_line.Goals as goal

pub loop-at-init : goal.loop-at-init
loop-at-init g c = none_so_far (edge_of c.args.line) (crossing_of c.args.line) c.args.self.now

pub loop-at-preserved : goal.loop-at-preserved
loop-at-preserved g c =
    one_further (edge_of c.args.line) (crossing_of c.args.line) c.loop-at.at _ _ _ _ c.loop-at.invariant
    (named_spot _ _ _ _ c.edge_at.ensures c.erase_spot.ensures) (named_spot _ _ _ _ c.crossing_at.ensures c.erase_spot-in-loop-at.ensures)

pub returns : goal.returns
returns g c =
    let all : c.loop-at.at ≡ c.args.length = omega arith in
    subst (λ length. Changes (spots_erased (line_spots c.args.line length)) (state_at c.args.self.now) (state_at c.erase_spot-2.new.self)) all
    (line_closed (edge_of c.args.line) (crossing_of c.args.line) c.loop-at.at _ _ _ c.loop-at.invariant
    (named_spot _ _ _ _ (c.crossing_at-2.ensures ∙ ap (crossing_of c.args.line) (sym all)) c.erase_spot-2.ensures))

use Rattle.std.proofs.Common.{sym, subst, ◌∙◌}
use Rattle.tabled_places.specs.Calls.{borders_erased}
use Rattle.tabled_places.specs.Event.{Changes}
use Rattle.tabled_places.specs.State.{state_at}
use Rattle.tabled_places.proofs.Clearing.{one_inside, one_outside, none_left}
use Rattle.tabled_grid.proofs.layers.clearing.Layers+T.erase_borders.Goals as goal

pub loop-pos-preserved-then-is_inside : goal.loop-pos-preserved-then-is_inside
loop-pos-preserved-then-is_inside g c = (
  tt,
  tt,
  (λ end others. c.loop-pos.invariant.2 end (subst (λ cells. Changes (borders_erased c.args.shape cells) (state_at c.loop-pos.self) (state_at end)) (sym c.in-Some.ensures.steps)
      (one_inside c.args.shape.0 c.args.shape.1 c.in-Some.pos c.next.new.self c.loop-pos.self _ end (sym c.is_inside.ensures ∙ c.if-is_inside.true) c.erase_border.ensures others))),
)

pub loop-pos-preserved : goal.loop-pos-preserved
loop-pos-preserved g c = (
  tt,
  tt,
  (λ end others. c.loop-pos.invariant.2 end (subst (λ cells. Changes (borders_erased c.args.shape cells) (state_at c.loop-pos.self) (state_at end)) (sym c.in-Some.ensures.steps)
      (one_outside c.args.shape.0 c.args.shape.1 c.in-Some.pos c.next.new.self c.loop-pos.self end (sym c.is_inside.ensures ∙ c.if-is_inside.false) others))),
)

pub returns : goal.returns
returns g c = c.loop-pos.invariant.2 c.loop-pos.self (none_left c.args.shape _ c.loop-pos.self c.in-None.ensures.steps.0)

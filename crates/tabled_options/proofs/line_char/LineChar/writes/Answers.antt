-- One more position.
use Rattle.std.proofs.Common.{ap, sym, ◌++◌, ◌∙◌, map, filter}
use Rattle.tabled_places.proofs.EntityBorders.{nothing_written}
use Rattle.tabled_options.specs.LineChar.{direction_of, has_edge, mark_written}
use Rattle.tabled_options.proofs.LineCharLemmas.{one_more}
use Rattle.tabled_options.proofs.line_char.LineChar.writes.Goals as goal

pub loop-pos-init : goal.loop-pos-init
loop-pos-init c = (
  tt,
  tt,
  ap (λ es. es ++ map (mark_written c.args.self.now) (filter (has_edge (direction_of c.args.self.now) c.args.shape) c.into_iter-pos-iterator.result)) (nothing_written c.new-writes.result.items c.new-writes.ensures.items)
      ∙ ap (λ cells. map (mark_written c.args.self.now) (filter (has_edge (direction_of c.args.self.now) c.args.shape) cells)) (c.into_iter-pos-iterator.ensures.into_iter_gives ∙ c.iter-pos-items.ensures),
)

pub loop-pos-preserved-in-Continue-1 : goal.loop-pos-preserved-in-Continue-1
loop-pos-preserved-in-Continue-1 c = (
  tt,
  tt,
  one_more (has_edge (direction_of c.args.self.now) c.args.shape) (mark_written c.args.self.now) c.push.new.self.items c.loop-pos.writes.items c.write_at.result _ c.loop-pos.pos-iterator c.next.new.self c.in-Some.pos
      c.in_ok-push.ensures.items c.write_at.ensures c.in-Some.ensures.steps (sym c.has_edge.ensures ∙ c.if-has_edge.true) c.loop-pos.invariant.2,
)

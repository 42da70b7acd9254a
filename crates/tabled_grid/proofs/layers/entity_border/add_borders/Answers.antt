use Rattle.std.proofs.Common.{◌++◌, ap, sym, ◌∙◌, append_assoc, append-nil}
use Rattle.tabled_places.specs.Calls.{border_set, borders_of}
use Rattle.tabled_places.specs.Writes.{writes_made}
use Rattle.tabled_places.proofs.EntityBorders.{eight_made, borders_inside, borders_outside, no_borders_left, none_inside_after}
use Rattle.tabled_grid.proofs.layers.entity_border.add_borders.Goals as goal

pub loop-pos-preserved-in-Continue-branch-2 : goal.loop-pos-preserved-in-Continue-branch-2
loop-pos-preserved-in-Continue-branch-2 g c =
    let rest = borders_of c.args.shape c.args.border.now c.next.new.self in (
      tt,
      tt,
      (ap (λ es. es ++ rest) (c.in_ok-add_to.ensures ∙ ap (λ es. writes_made c.loop-pos.writes.items ++ es) (eight_made _ _ _ _ _ _ _ _ ∙ c.writes_around.ensures) ∙ ap (λ border. writes_made c.loop-pos.writes.items ++ border_set c.in-Some.pos border) c.in_ok-copy.ensures)
          ∙ append_assoc (writes_made c.loop-pos.writes.items) (border_set c.in-Some.pos c.args.border.now) rest
          ∙ ap (λ es. writes_made c.loop-pos.writes.items ++ es) (sym (borders_inside c.args.shape.0 c.args.shape.1 c.args.border.now c.in-Some.pos c.next.new.self (sym c.is_inside.ensures ∙ c.if-is_inside.true)) ∙ ap (borders_of c.args.shape c.args.border.now) (sym c.in-Some.ensures.steps))
          ∙ c.loop-pos.invariant.2),
      (λ none. none_inside_after c.args.shape.0 c.args.shape.1 c.in-Some.pos c.next.new.self c.loop-pos.pos-iterator c.in-Some.ensures.steps (c.loop-pos.invariant.3 none)),
    )

pub loop-pos-preserved : goal.loop-pos-preserved
loop-pos-preserved g c = (
  tt,
  tt,
  (ap (λ es. writes_made c.loop-pos.writes.items ++ es) (sym (borders_outside c.args.shape.0 c.args.shape.1 c.args.border.now c.in-Some.pos c.next.new.self (sym c.is_inside.ensures ∙ c.if-is_inside.false)) ∙ ap (borders_of c.args.shape c.args.border.now) (sym c.in-Some.ensures.steps))
      ∙ c.loop-pos.invariant.2),
  (λ none. none_inside_after c.args.shape.0 c.args.shape.1 c.in-Some.pos c.next.new.self c.loop-pos.pos-iterator c.in-Some.ensures.steps (c.loop-pos.invariant.3 none)),
)

pub returns-clause-ok : goal.returns-clause-ok
returns-clause-ok g c =
    sym (append-nil (writes_made c.loop-pos.writes.items))
    ∙ ap (λ es. writes_made c.loop-pos.writes.items ++ es) (sym (no_borders_left c.args.shape c.args.border.now c.loop-pos.pos-iterator c.in-None.ensures.steps.0))
    ∙ c.loop-pos.invariant.2

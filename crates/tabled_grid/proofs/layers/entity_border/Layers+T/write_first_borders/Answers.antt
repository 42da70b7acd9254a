use Rattle.std.proofs.Common.{◌≡◌, true, [], ◌∷◌, sym, subst, ◌∙◌}
use Rattle.tabled_object.specs.Entities.{is_inside}
use Rattle.tabled_places.specs.Calls.{border_set, borders_of}
use Rattle.tabled_places.specs.declared.event.Event.TheVariants.{Erase as erase}
use Rattle.tabled_places.specs.declared.event.Region.TheVariants.{Level as level_sites}
use Rattle.tabled_places.specs.Event.{Changes}
use Rattle.tabled_places.specs.State.{state_at}
use Rattle.tabled_places.proofs.EntityBorders.{none_inside_after}
use Rattle.tabled_grid.proofs.FirstBorders.{same_beside_border, borders_taken_back, border_then, outside_then, no_border_then}
use Rattle.tabled_grid.proofs.Seen.{on_err, where_ok}
use Rattle.tabled_grid.proofs.layers.entity_border.Layers+T.write_first_borders.Goals as goal

pub returns-then-is_err-clause-err : goal.returns-then-is_err-clause-err
returns-then-is_err-clause-err g c =
    on_err c.write_copy-written.result (λ same. borders_taken_back c.args.self.now c.loop-pos.self c.erase_cells.new.self c.requires c.loop-pos.invariant.beside
    (subst (λ store. Changes (erase (level_sites 4) ∷ []) (state_at store) (state_at c.erase_cells.new.self)) same c.erase_cells.ensures)) c.write_copy-written.ensures.err

pub loop-pos-preserved-else-is_err : goal.loop-pos-preserved-else-is_err
loop-pos-preserved-else-is_err g c =
    let inside : is_inside c.args.shape.0 c.args.shape.1 c.in-Some.pos ≡ true = sym c.is_inside.ensures ∙ c.if-is_inside.true in
    let made : Changes (border_set c.in-Some.pos c.args.border.now) (state_at c.loop-pos.self) (state_at c.write_copy-written.new.self) = where_ok c.write_copy-written.result (sym c.is_err.ensures.value ∙ c.if-is_err.false) c.write_copy-written.ensures.ok in record {
      can_next = tt;
      is_finite = tt;
      written = λ end others. c.loop-pos.invariant.written end (subst (λ cells. Changes (borders_of c.args.shape c.args.border.now cells) (state_at c.loop-pos.self) (state_at end)) (sym c.in-Some.ensures.steps)
          (border_then c.args.shape.0 c.args.shape.1 c.args.border.now c.in-Some.pos c.next.new.self c.loop-pos.self c.write_copy-written.new.self end inside made others));
      beside = same_beside_border c.in-Some.pos c.args.border.now c.args.self.now c.loop-pos.self c.write_copy-written.new.self c.loop-pos.invariant.beside made;
      none_inside = λ none. none_inside_after c.args.shape.0 c.args.shape.1 c.in-Some.pos c.next.new.self c.loop-pos.pos-iterator c.in-Some.ensures.steps (c.loop-pos.invariant.none_inside none);
    }

pub loop-pos-preserved : goal.loop-pos-preserved
loop-pos-preserved g c = record {
  can_next = tt;
  is_finite = tt;
  written = λ end others. c.loop-pos.invariant.written end (subst (λ cells. Changes (borders_of c.args.shape c.args.border.now cells) (state_at c.loop-pos.self) (state_at end)) (sym c.in-Some.ensures.steps)
      (outside_then c.args.shape.0 c.args.shape.1 c.args.border.now c.in-Some.pos c.next.new.self c.loop-pos.self end (sym c.is_inside.ensures ∙ c.if-is_inside.false) others));
  beside = c.loop-pos.invariant.beside;
  none_inside = λ none. none_inside_after c.args.shape.0 c.args.shape.1 c.in-Some.pos c.next.new.self c.loop-pos.pos-iterator c.in-Some.ensures.steps (c.loop-pos.invariant.none_inside none);
}

pub returns-clause-ok : goal.returns-clause-ok
returns-clause-ok g c =
    c.loop-pos.invariant.written c.loop-pos.self (no_border_then c.args.shape c.args.border.now c.loop-pos.pos-iterator c.loop-pos.self c.in-None.ensures.steps.0)

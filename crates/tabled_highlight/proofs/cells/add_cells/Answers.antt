use Rattle.std.proofs.Common.{Bool, [], ◌∷◌, ap, sym, ◌&&◌, ◌||◌, ◌∙◌}
use Rattle.std.specs.List.{list_any}
use Rattle.tabled_object.specs.Entities.{is_inside}
use Rattle.tabled_object.specs.Listing.{listed}
use Rattle.tabled_object.specs.declared.position.Position.{Position}
use Rattle.tabled_object.proofs.Sets.{is_here}
use Rattle.tabled_highlight.specs.Around.{has}
use Rattle.tabled_highlight.proofs.Gathering.{all_named, one_added, has_inserted}
use Rattle.tabled_highlight.proofs.cells.add_cells.Goals as goal

pub loop-pos-init : goal.loop-pos-init
loop-pos-init c =
    let rows = c.args.shape.0 in
    let cols = c.args.shape.1 in (
      tt,
      tt,
      λ pos. ap (λ cells. has c.args.cells.now.keys pos || (is_inside rows cols pos && list_any (is_here pos) cells)) (c.into_iter-pos-iterator.ensures.into_iter_gives ∙ c.iter-pos-items.ensures)
          ∙ ap (λ b. has c.args.cells.now.keys pos || b) (all_named rows cols c.args.entity pos),
    )

pub loop-pos-preserved-in_ok-insert : goal.loop-pos-preserved-in_ok-insert
loop-pos-preserved-in_ok-insert c =
    let whole : Position → Bool = λ pos. has c.args.cells.now.keys pos || listed (c.args.entity ∷ []) c.args.shape.0 c.args.shape.1 pos in (
      tt,
      tt,
      one_added c.args.shape.0 c.args.shape.1 c.loop-pos.cells.keys c.insert.new.self.keys c.loop-pos.pos-iterator c.next.new.self c.in-Some.pos whole c.in-Some.ensures.steps
          (sym c.is_inside.ensures ∙ c.if-is_inside.true) (has_inserted c.loop-pos.cells c.insert.new.self c.in-Some.pos c.in_ok-insert.ensures.updates) c.loop-pos.invariant.2,
    )

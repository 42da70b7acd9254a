use Rattle.std.proofs.Common.{[], ◌∷◌, ◌-◌, sym, ap, ◌∙◌}
use Rattle.tabled_places.specs.declared.place.LineOf.{LineOf}
use Rattle.tabled_object.specs.declared.offset.Offset.{Offset}
use Rattle.tabled_places.specs.declared.site.Direction.TheVariants.{Horizontal, Vertical}
use Rattle.tabled_places.specs.declared.site.Spot.TheVariants.{Edge, Crossing}
use Rattle.tabled_places.specs.declared.site.Class.TheVariants.{Edges as edges, Crossings as crossings}
use Rattle.tabled_places.specs.declared.site.Part.TheVariants.{Edges as main_edges, Crossings as meeting}
use Rattle.tabled_places.specs.declared.site.Site.TheVariants.{Default as the_default, Class as of_class, Line as of_line, Cell as at_spot, Offset as at_offset}
use Rattle.tabled_places.specs.Site.{rank}
use Rattle.tabled_replay.proofs.EventListLemmas.{value_is, value_outside}
use Rattle.tabled_replay.proofs.event_list.value.Goals as goal

pub returns-then-not-is_inside : goal.returns-then-not-is_inside
returns-then-not-is_inside c = sym (value_outside _ _ _ _ (sym c.is_inside.ensures ∙ c.if-not-is_inside.true))

pub returns-in-Horizontal : goal.returns-in-Horizontal
returns-in-Horizontal c =
    let p = c.in-Horizontal in
    value_is _ _ _ _ _ _ _ (sym c.is_inside.ensures ∙ c.if-not-is_inside.false) c.in-Horizontal.is
    (ap (λ n. at_offset Horizontal p.row p.col (Offset.Start p.at) ∷ at_offset Horizontal p.row p.col (Offset.End (c.args.size - 1 - p.at)) ∷ at_spot (Edge Horizontal p.row p.col)
    ∷ of_line (LineOf.Horizontal p.row) main_edges ∷ of_class (edges Horizontal n) ∷ the_default ∷ []) c.of.ensures)
    c.first_sign.ensures

pub returns-in-Vertical : goal.returns-in-Vertical
returns-in-Vertical c =
    let p = c.in-Vertical in
    value_is _ _ _ _ _ _ _ (sym c.is_inside.ensures ∙ c.if-not-is_inside.false) c.in-Vertical.is
    (ap (λ n. at_offset Vertical p.row p.col (Offset.Start p.at) ∷ at_offset Vertical p.row p.col (Offset.End (c.args.size - 1 - p.at)) ∷ at_spot (Edge Vertical p.row p.col)
    ∷ of_line (LineOf.Vertical p.col) main_edges ∷ of_class (edges Vertical n) ∷ the_default ∷ []) c.of-in-Vertical.ensures)
    c.first_sign-in-Vertical.ensures

pub returns-in-Cross : goal.returns-in-Cross
returns-in-Cross c =
    let p = c.in-Cross in
    value_is _ _ _ _ _ _ _ (sym c.is_inside.ensures ∙ c.if-not-is_inside.false) c.in-Cross.is
    (ap (λ n. at_spot (Crossing p.row p.col) ∷ of_line (LineOf.Horizontal p.row) (meeting c.of-col_rank.result) ∷ of_line (LineOf.Vertical p.col) (meeting n)
    ∷ of_class (crossings n c.of-col_rank.result) ∷ the_default ∷ []) c.of-row_rank.ensures
    ∙ ap (λ n. at_spot (Crossing p.row p.col) ∷ of_line (LineOf.Horizontal p.row) (meeting n) ∷ of_line (LineOf.Vertical p.col) (meeting (rank c.args.shape.0 p.row))
    ∷ of_class (crossings (rank c.args.shape.0 p.row) n) ∷ the_default ∷ []) c.of-col_rank.ensures)
    c.first_sign-in-Cross.ensures

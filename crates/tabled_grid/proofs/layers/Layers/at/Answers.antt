use Rattle.std.proofs.Common.{sym, ◌∙◌}
use Rattle.tabled_places.specs.declared.place.LineOf.{LineOf}
use Rattle.tabled_places.proofs.LookUps.{value_outside, at_edge, at_crossing}
use Rattle.tabled_grid.proofs.layers.Layers.at.Goals as goal

pub returns-then-not-is_inside-clause-value : goal.returns-then-not-is_inside-clause-value
returns-then-not-is_inside-clause-value g c =
    sym (value_outside c.args.self.now c.args.shape c.args.size c.args.place (sym c.is_inside.ensures ∙ c.if-not-is_inside.true))

pub returns-in-Horizontal-clause-value : goal.returns-in-Horizontal-clause-value
returns-in-Horizontal-clause-value g c =
    at_edge c.args.self.now c.args.shape c.args.size c.args.place (LineOf.Horizontal c.in-Horizontal.row) c.in-Horizontal.col c.in-Horizontal.at _ c.in-Horizontal.is (sym c.is_inside.ensures ∙ c.if-not-is_inside.false) c.at_edge.ensures.value

pub returns-in-Vertical-clause-value : goal.returns-in-Vertical-clause-value
returns-in-Vertical-clause-value g c =
    at_edge c.args.self.now c.args.shape c.args.size c.args.place (LineOf.Vertical c.in-Vertical.col) c.in-Vertical.row c.in-Vertical.at _ c.in-Vertical.is (sym c.is_inside.ensures ∙ c.if-not-is_inside.false) c.at_edge-in-Vertical.ensures.value

pub returns-in-Cross-clause-value : goal.returns-in-Cross-clause-value
returns-in-Cross-clause-value g c =
    at_crossing c.args.self.now c.args.shape c.args.size c.args.place c.in-Cross.row c.in-Cross.col _ c.in-Cross.is (sym c.is_inside.ensures ∙ c.if-not-is_inside.false) c.plain_crossing.ensures.value

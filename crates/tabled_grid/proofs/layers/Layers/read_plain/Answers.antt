use Rattle.std.proofs.Common.{sym, ◌∙◌}
use Rattle.tabled_places.specs.declared.place.LineOf.{LineOf}
use Rattle.tabled_places.proofs.LookUps.{plain_outside, plain_at_edge, plain_at_crossing}
use Rattle.tabled_grid.proofs.layers.Layers.read_plain.Goals as goal

pub returns-then-not-has_spot-clause-value : goal.returns-then-not-has_spot-clause-value
returns-then-not-has_spot-clause-value g c = sym (plain_outside c.args.self.now c.args.shape c.args.place (sym c.has_spot.ensures ∙ c.if-not-has_spot.true))

pub returns-in-Horizontal-clause-value : goal.returns-in-Horizontal-clause-value
returns-in-Horizontal-clause-value g c =
    plain_at_edge c.args.self.now c.args.shape c.args.place (LineOf.Horizontal c.in-Horizontal.row) c.in-Horizontal.col c.in-Horizontal.at _ c.in-Horizontal.is (sym c.has_spot.ensures ∙ c.if-not-has_spot.false) c.plain_edge.ensures.value

pub returns-in-Vertical-clause-value : goal.returns-in-Vertical-clause-value
returns-in-Vertical-clause-value g c =
    plain_at_edge c.args.self.now c.args.shape c.args.place (LineOf.Vertical c.in-Vertical.col) c.in-Vertical.row c.in-Vertical.at _ c.in-Vertical.is (sym c.has_spot.ensures ∙ c.if-not-has_spot.false) c.plain_edge-in-Vertical.ensures.value

pub returns-in-Cross-clause-value : goal.returns-in-Cross-clause-value
returns-in-Cross-clause-value g c =
    plain_at_crossing c.args.self.now c.args.shape c.args.place c.in-Cross.row c.in-Cross.col _ c.in-Cross.is (sym c.has_spot.ensures ∙ c.if-not-has_spot.false) c.plain_crossing.ensures.value

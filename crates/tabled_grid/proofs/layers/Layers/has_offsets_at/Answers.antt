-- Of the direction's offsets.
use Rattle.std.proofs.Common.{◌↔◌, IsFalse, sym, subst}
use Rattle.tabled_places.specs.declared.site.Direction.{Direction}
use Rattle.tabled_places.specs.declared.site.Direction.TheVariants.{Horizontal, Vertical}
use Rattle.tabled_places.specs.State.{State, HasNoOffsetsAt}
use Rattle.tabled_grid.proofs.layers.Layers.has_offsets_at.Goals as goal

pub returns-in-Horizontal-clause-value : goal.returns-in-Horizontal-clause-value
returns-in-Horizontal-clause-value g c =
    subst (λ (d : Direction). IsFalse c.has_row.result ↔ HasNoOffsetsAt d c.args.row c.args.self.now) (sym c.in-Horizontal.is)
    (subst (λ (kept : State g.row.T.Denot). IsFalse c.has_row.result ↔ HasNoOffsetsAt Horizontal c.args.row kept) c.self.view_is c.has_row.ensures.value)

pub returns-in-Vertical-clause-value : goal.returns-in-Vertical-clause-value
returns-in-Vertical-clause-value g c =
    subst (λ (d : Direction). IsFalse c.has_row-in-Vertical.result ↔ HasNoOffsetsAt d c.args.row c.args.self.now) (sym c.in-Vertical.is)
    (subst (λ (kept : State g.row.T.Denot). IsFalse c.has_row-in-Vertical.result ↔ HasNoOffsetsAt Vertical c.args.row kept) c.self.view_is c.has_row-in-Vertical.ensures.value)

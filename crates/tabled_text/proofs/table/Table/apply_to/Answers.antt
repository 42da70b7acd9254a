-- The counts of the shape are those of the texts.
use Rattle.std.proofs.Common.{ℕ, List, map, take, subst, ap, ◌∙◌, OnOk}
use Rattle.std.specs.Prelude.{OnErr}
use Rattle.tabled_object.specs.declared.records.Shape.{Shape}
use Rattle.tabled_configuration.specs.Colored.{Changes, Colored}
use Rattle.tabled_configuration.specs.Configuration.{ConfigEvent}
use Rattle.tabled_configuration.specs.Options.{MakesInTurn}
use Rattle.tabled_text.proofs.table.Table.apply_to.Goals as goal

pub returns-clause-config : goal.returns-clause-config
returns-clause-config g c =
    let config = c.deref_mut.ensures.value ∙ ap (λ drawing. drawing.config) c.self.view_is in
    subst (λ (at : Shape × Colored). OnOk c.modify.result ((made : List ConfigEvent) × MakesInTurn Changes (map (g.P.CellOption.makes c.args.option.now at.0)
    (g.O.Object.listing c.args.object.now at.0.rows at.0.cols)) made at.1 c.modify.new.cfg)) (λ i. (c.shape-shape.ensures i, config i)) c.modify.ensures.ok

pub returns-clause-err : goal.returns-clause-err
returns-clause-err g c =
    let config = c.deref_mut.ensures.value ∙ ap (λ drawing. drawing.config) c.self.view_is in
    subst (λ (at : Shape × Colored). OnErr c.modify.result ((count : ℕ) × (made : List ConfigEvent) × MakesInTurn Changes (map (g.P.CellOption.makes c.args.option.now at.0)
    (take count (g.O.Object.listing c.args.object.now at.0.rows at.0.cols))) made at.1 c.modify.new.cfg)) (λ i. (c.shape-shape.ensures i, config i)) c.modify.ensures.err

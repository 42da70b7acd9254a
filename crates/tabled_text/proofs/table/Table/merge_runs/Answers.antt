-- The runs are found, and then merged.
use Rattle.std.proofs.Common.{◌≡◌, length, take, ap, subst, ◌∙◌}
use Rattle.tabled_grid.proofs.Seen.{on_ok, on_err}
use Rattle.tabled_object.specs.Listing.{covered}
use Rattle.tabled_changes.proofs.ColoredLemmas.{Changes_lent}
use Rattle.tabled_configuration.specs.ChangeLaws.{none_change}
use Rattle.tabled_configuration.specs.Colored.{Changes}
use Rattle.tabled_measure.specs.Runs.{merged, runs}
use Rattle.tabled_measure.specs.Sizes.{column_count}
use Rattle.tabled_text.specs.TextTable.{Drawing}
use Rattle.tabled_text.proofs.GroupLemmas.{none_by_runs, refused_with}
use Rattle.tabled_text.proofs.table.Table.merge_runs.Goals as goal

pub returns-in_err-entities-clause-err : goal.returns-in_err-entities-clause-err
returns-in_err-entities-clause-err g c = refused_with c.from_residual.result (0, none_change c.args.self.now.config)

pub returns-in_err-found-clause-err : goal.returns-in_err-found-clause-err
returns-in_err-found-clause-err g c = refused_with c.from_residual-in_err-found.result (0, none_change c.args.self.now.config)

pub returns-clause-config : goal.returns-clause-config
returns-clause-config g c =
    let texts = c.args.self.now.texts in
    let all = runs c.args.down (covered (g.O.Object.listing c.args.object.now (length texts) (column_count texts))) texts in
    let found : c.deref.result.now ≡ all =
    c.deref.ensures.value ∙ c.in_ok-found.ensures
    ∙ (λ i. runs c.args.down (λ cell. (c.in_ok-entities.ensures cell ∙ (λ j. covered (g.O.Object.listing c.args.object.now (c.shape-shape.ensures j).rows (c.shape-shape.ensures j).cols) cell)) i) (c.texts.ensures i)) in
    on_ok c.merge.result (λ changes.
    subst (λ old. Changes (merged c.args.down all) old (record { spanned = c.merge.new.cfg; cell_colors = c.deref_mut.result.now.cell_colors }))
    (c.deref_mut.ensures.value ∙ ap (λ (drawing : Drawing). drawing.config) c.self.view_is)
    (Changes_lent _ _ c.deref_mut.result.now _ _ c.config_mut.ensures.value (ap (merged c.args.down) found) (none_by_runs c.args.down all) changes))
    c.merge.ensures.ok

pub returns-clause-err : goal.returns-clause-err
returns-clause-err g c =
    let texts = c.args.self.now.texts in
    let all = runs c.args.down (covered (g.O.Object.listing c.args.object.now (length texts) (column_count texts))) texts in
    let found : c.deref.result.now ≡ all =
    c.deref.ensures.value ∙ c.in_ok-found.ensures
    ∙ (λ i. runs c.args.down (λ cell. (c.in_ok-entities.ensures cell ∙ (λ j. covered (g.O.Object.listing c.args.object.now (c.shape-shape.ensures j).rows (c.shape-shape.ensures j).cols) cell)) i) (c.texts.ensures i)) in
    on_err c.merge.result (λ first. (
      first.0,
      subst (λ old. Changes (merged c.args.down (take first.0 all)) old (record { spanned = c.merge.new.cfg; cell_colors = c.deref_mut.result.now.cell_colors }))
          (c.deref_mut.ensures.value ∙ ap (λ (drawing : Drawing). drawing.config) c.self.view_is)
          (Changes_lent _ _ c.deref_mut.result.now _ _ c.config_mut.ensures.value (ap (λ some. merged c.args.down (take first.0 some)) found) (none_by_runs c.args.down (take first.0 all)) first.1),
    ))
    c.merge.ensures.err

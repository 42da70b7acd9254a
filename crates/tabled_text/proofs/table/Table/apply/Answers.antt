-- The option reads the sizes that were measured for it, or those that are kept.
use Rattle.std.proofs.Common.{◌≡◌, None, Some, unwrap_or, ap, refl, sym, subst, ◌∙◌}
use Rattle.tabled_grid.proofs.Seen.{on_ok}
use Rattle.tabled_configuration.specs.Configuration.{is_sized_by_texts}
use Rattle.tabled_text.specs.TableViews.{AreSizes}
use Rattle.tabled_text.specs.TextTable.{Drawing, shape_of}
use Rattle.tabled_text.proofs.SpanLemmas.{changes_read}
use Rattle.tabled_text.proofs.ViewLemmas.{are_read}
use Rattle.tabled_text.proofs.table.Table.apply.Goals as goal

pub returns-in-Some-clause-config : goal.returns-in-Some-clause-config
returns-in-Some-clause-config g c =
    let drawing = c.args.self.now in
    let view = c.view.result in
    let is = c.view.ensures in
    let sizes = c.in-Some.sizes in
    let sized = subst (λ found. AreSizes g.T.AsStr.text view (unwrap_or found view.sizes.now)) c.in-Some.is c.in_ok-sizes.ensures.sizes in
    on_ok c.change.result (λ changes. (
      sizes,
      are_read g.T.AsStr.text view drawing sizes sized is.config is.texts
          (λ e. absurd (let no : None ≡ Some sizes = sym (c.in_ok-sizes.ensures.none (ap (λ cfg. is_sized_by_texts cfg.spanned) is.config ∙ e)) ∙ c.in-Some.is in cc)),
      changes_read (g.P.TableOption.makes c.args.option) c.shape-shape.result (shape_of drawing.texts) sizes sizes c.deref_mut.result.now drawing.config c.change.new.cfg
          c.shape-shape.ensures refl
          (c.deref_mut.ensures.value ∙ ap (λ (drawing : Drawing). drawing.config) c.self.view_is) changes,
    )) c.change.ensures.ok

pub returns-in-None-clause-config : goal.returns-in-None-clause-config
returns-in-None-clause-config g c =
    let drawing = c.args.self.now in
    let view = c.view.result in
    let is = c.view.ensures in
    let sized = subst (AreSizes g.T.AsStr.text view) is.sizes (subst (λ found. AreSizes g.T.AsStr.text view (unwrap_or found view.sizes.now)) c.in-None.is c.in_ok-sizes.ensures.sizes) in
    on_ok c.change-in-None.result (λ changes. (
      drawing.sizes,
      are_read g.T.AsStr.text view drawing drawing.sizes sized is.config is.texts (λ e. refl),
      changes_read (g.P.TableOption.makes c.args.option) c.shape-shape.result (shape_of drawing.texts) c.self.inside.sizes drawing.sizes c.deref_mut-in-None.result.now drawing.config c.change-in-None.new.cfg
          c.shape-shape.ensures (ap (λ (drawing : Drawing). drawing.sizes) c.self.view_is)
          (c.deref_mut-in-None.ensures.value ∙ ap (λ (drawing : Drawing). drawing.config) c.self.view_is) changes,
    )) c.change-in-None.ensures.ok

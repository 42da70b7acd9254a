-- The groups are found, and then the lines put.
use Rattle.std.proofs.Common.{◌≡◌, ap, filter, take, subst, ◌∙◌}
use Rattle.tabled_object.specs.Entities.{below}
use Rattle.tabled_grid.proofs.Seen.{on_ok, on_err}
use Rattle.tabled_changes.proofs.ColoredLemmas.{Changes_lent}
use Rattle.tabled_configuration.specs.ChangeLaws.{none_change}
use Rattle.tabled_configuration.specs.Colored.{Changes}
use Rattle.tabled_measure.specs.Found.{begins_group, group_starts}
use Rattle.tabled_text.specs.Groups.{lines_above}
use Rattle.tabled_text.specs.TextTable.{Drawing}
use Rattle.tabled_text.proofs.GroupLemmas.{none_by_lines, refused_with}
use Rattle.tabled_text.proofs.table.Table.line_between_groups.Goals as goal

pub returns-clause-config : goal.returns-clause-config
returns-clause-config g c =
    let starts = group_starts c.args.headings c.args.column c.args.self.now.texts in
    let found : c.deref.result.now ≡ starts =
    c.deref.ensures.value ∙ c.in_ok-starts.ensures ∙ (λ i. filter (begins_group c.args.headings c.args.column (c.texts.ensures i)) (below (c.shape-count.ensures i).rows)) in
    on_ok c.put_lines.result (λ changes.
    subst (λ old. Changes (lines_above c.args.line starts) old (record { spanned = c.put_lines.new.cfg; cell_colors = c.deref_mut.result.now.cell_colors }))
    (c.deref_mut.ensures.value ∙ ap (λ (drawing : Drawing). drawing.config) c.self.view_is)
    (Changes_lent _ _ c.deref_mut.result.now _ _ c.config_mut.ensures.value (ap (lines_above c.args.line) found) (none_by_lines c.args.line starts) changes))
    c.put_lines.ensures.ok

pub returns-in_err-starts-clause-err : goal.returns-in_err-starts-clause-err
returns-in_err-starts-clause-err g c = refused_with c.from_residual.result (0, none_change c.args.self.now.config)

pub returns-clause-err : goal.returns-clause-err
returns-clause-err g c =
    let starts = group_starts c.args.headings c.args.column c.args.self.now.texts in
    let found : c.deref.result.now ≡ starts =
    c.deref.ensures.value ∙ c.in_ok-starts.ensures ∙ (λ i. filter (begins_group c.args.headings c.args.column (c.texts.ensures i)) (below (c.shape-count.ensures i).rows)) in
    on_err c.put_lines.result (λ first. (
      first.0,
      subst (λ old. Changes (lines_above c.args.line (take first.0 starts)) old (record { spanned = c.put_lines.new.cfg; cell_colors = c.deref_mut.result.now.cell_colors }))
          (c.deref_mut.ensures.value ∙ ap (λ (drawing : Drawing). drawing.config) c.self.view_is)
          (Changes_lent _ _ c.deref_mut.result.now _ _ c.config_mut.ensures.value (ap (λ some. lines_above c.args.line (take first.0 some)) found) (none_by_lines c.args.line (take first.0 starts)) first.1),
    ))
    c.put_lines.ensures.err

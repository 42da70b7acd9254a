use Rattle.std.proofs.Common.{◌||◌, sym, ap, ◌∙◌}
use Rattle.tabled_layout.specs.Covering.{covered_by_column_span, covered_by_both_spans}
use Rattle.tabled_correction.proofs.CoveredLemmas.{asked}
use Rattle.tabled_correction.proofs.picture.Picture.is_covered_in_row.Goals as goal

pub returns-else-contains : goal.returns-else-contains
returns-else-contains c =
    let table = c.args.self.now in
    let columns = table.cfg.now.settings.column_spans in
    let rows = table.cfg.now.settings.row_spans in
    c.contains-else-contains.ensures ∙ asked table.covered.by_both table.shape (covered_by_both_spans columns rows) c.args.cell table.by_both c.requires
    ∙ ap (λ b. b || covered_by_both_spans columns rows c.args.cell)
    (sym c.if-contains.false ∙ c.contains.ensures ∙ asked table.covered.in_rows table.shape (covered_by_column_span columns) c.args.cell table.in_rows c.requires)

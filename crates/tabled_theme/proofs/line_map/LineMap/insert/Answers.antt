use Rattle.std.proofs.Common.{sym, ap, ◌∙◌}
use Rattle.std.specs.Cmp.{nat_cmp_total}
use Rattle.std.specs.FinMap as map
use Rattle.tabled_kept.proofs.Tables.{get-table, table-put}
use Rattle.tabled_grid.proofs.Seen.{if_err}
use Rattle.tabled_theme.proofs.line_map.LineMap.insert.Goals as goal

pub returns-in_err-insert-clause-absent : goal.returns-in_err-insert-clause-absent
returns-in_err-insert-clause-absent g c =
    if_err c.from_residual.result (sym (ap (λ m. map.get m c.args.index) c.self.view_is)
    ∙ get-table nat_cmp_total map.nat_cmp-IsAntisymmetric c.self.inside.lines.entries c.args.index ∙ c.in_err-insert.ensures.absent)

pub returns-clause-ok : goal.returns-clause-ok
returns-clause-ok g c =
    table-put nat_cmp_total map.nat_cmp-IsAntisymmetric c.self.inside.lines.entries c.insert.new.self.entries c.args.index c.args.line c.in_ok-insert.ensures.updates.0
    ∙ ap (λ m. map.insert m c.args.index c.args.line) c.self.view_is

use Rattle.std.proofs.Common.{sym, ap, ◌∙◌}
use Rattle.std.specs.Cmp.{nat_cmp_total}
use Rattle.std.specs.FinMap as map
use Rattle.tabled_kept.proofs.Tables.{get-table}
use Rattle.tabled_theme.proofs.line_map.LineMap.get.Goals as goal

pub returns : goal.returns
returns g c =
    c.get.ensures.value ∙ sym (get-table nat_cmp_total map.nat_cmp-IsAntisymmetric c.self.inside.lines.entries c.args.index)
    ∙ ap (λ m. map.get m c.args.index) c.self.view_is

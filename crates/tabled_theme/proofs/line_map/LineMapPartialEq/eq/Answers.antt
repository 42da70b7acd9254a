use Rattle.std.proofs.Common.{◌∙◌}
use Rattle.tabled_theme.specs.Same.{same_lines}
use Rattle.tabled_theme.proofs.LineMaps.{same_in_order}
use Rattle.tabled_theme.proofs.line_map.LineMapPartialEq.eq.Goals as goal

pub returns : goal.returns
returns g c =
    c.eq.ensures ∙ same_in_order g.L.PartialEq.eq c.self.inside.lines.entries c.other.inside.lines.entries c.len.ensures.ordered c.len-2.ensures.ordered
    ∙ (λ i. same_lines g.L.PartialEq.eq (c.self.view_is i) (c.other.view_is i))

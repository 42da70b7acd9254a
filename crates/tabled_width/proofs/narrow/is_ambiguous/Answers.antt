-- The kind, by the two widths.
use Rattle.std.proofs.Common.{◌==◌, ◌&&◌, nat_lt, unwrap_or, ap, ◌∙◌}
use Rattle.tabled_width.proofs.Ranges.{told_by_widths}
use Rattle.tabled_width.proofs.narrow.is_ambiguous.Goals as goal

pub returns : goal.returns
returns c =
    let one = c.unwrap_or-width.ensures ∙ ap (λ width. unwrap_or width 0) c.width.ensures.value in
    let two = c.unwrap_or-width_cjk.ensures ∙ ap (λ width. unwrap_or width 0) c.width_cjk.ensures.value in
    (λ i. nat_lt 0xA0 c.args.character && ((one i == 1) && (two i == 2))) ∙ told_by_widths c.args.character

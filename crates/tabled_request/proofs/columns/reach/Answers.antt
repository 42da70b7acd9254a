-- The columns of a range.
use Rattle.std.proofs.Common.{◌-◌, ap, sym, ◌∙◌}
use Rattle.std.specs.List.{range_with_len}
use Rattle.tabled_request.proofs.KeptColumns.{range_kept}
use Rattle.tabled_request.proofs.columns.reach.Goals as goal

pub returns-clause-columns : goal.returns-clause-columns
returns-clause-columns c =
    range_kept c.args.numbers.0 c.args.numbers.1 c.args.count
    ∙ ap (λ to. range_with_len (c.args.numbers.0 - 1) (to - (c.args.numbers.0 - 1))) (sym c.min.ensures)
    ∙ ap (λ from. range_with_len from (c.min.result - from)) (sym c.saturating_sub.ensures)

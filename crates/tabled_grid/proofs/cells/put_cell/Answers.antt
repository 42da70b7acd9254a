use Rattle.std.proofs.Common.{sym, ◌∙◌}
use Rattle.tabled_places.specs.Keys.{spots_total, exact_spots}
use Rattle.tabled_kept.proofs.Tables.{put_and_taken}
use Rattle.tabled_grid.proofs.cells.put_cell.Goals as goal

pub returns-then-is_err-clause-err : goal.returns-then-is_err-clause-err
returns-then-is_err-clause-err g c =
    put_and_taken spots_total exact_spots _ _ _ c.args.spot c.args.value c.in_ok-before.before c.in_ok-before.ensures.before (sym c.is_some.ensures ∙ c.if-is_some.false) c.in_ok-before.ensures.ok c.remove.ensures.removed

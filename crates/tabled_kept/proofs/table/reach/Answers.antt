use Rattle.std.proofs.Common.{ap, ◌∙◌, arith, ◌++◌, ◌∷◌, []}
use Rattle.tabled_kept.specs.Slots.{in_rows}
use Rattle.tabled_kept.proofs.TableLemmas.{in_rows-push}
use Rattle.tabled_kept.proofs.table.reach.Goals as goal

pub loop-alloc-preserved : goal.loop-alloc-preserved
loop-alloc-preserved g c = (
  ap in_rows (c.in_ok-push.ensures.items ∙ ap (λ row. c.loop-alloc.rows.items ++ row ∷ []) c.new.ensures) ∙ in_rows-push c.loop-alloc.rows.items ∙ c.loop-alloc.invariant.0,
  omega (arith, c.loop-alloc.invariant.1, c.in_ok-push.ensures.len),
)

-- A row with room for more has its texts.
use Rattle.std.proofs.Common.{◌<◌, max, String, Global, vec_len, vec_capacity, ◌∙◌, arith}
use Rattle.std.specs.declared.vec.Vec.{Vec}
use Rattle.tabled_rows.proofs.RowLemmas.{each-more, same-texts}
use Rattle.tabled_rows.proofs.columns.reserve_column.Goals as goal

pub returns-in_err-reserve-clause-texts : goal.returns-in_err-reserve-clause-texts
returns-in_err-reserve-clause-texts c =
    same-texts c.loop-row.rows c.loop-row.row-index c.reserve.new.self c.row-item.result c.in_err-reserve.ensures.items ∙ c.loop-row.invariant.texts

pub loop-row-preserved : goal.loop-row-preserved
loop-row-preserved c = record {
  texts = same-texts c.loop-row.rows c.loop-row.row-index c.reserve.new.self c.row-item.result c.in_ok-reserve.ensures.items ∙ c.loop-row.invariant.texts;
  room = each-more (λ (row : Vec (String Global) Global). max c.args.width (vec_len row) < vec_capacity row) c.loop-row.rows c.loop-row.row-index c.reserve.new.self (omega arith) c.loop-row.invariant.room (omega (arith, c.in_ok-reserve.ensures.ok, c.in_ok-reserve.ensures.len));
}

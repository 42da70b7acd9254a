use Rattle.tabled_kept.proofs.TableLemmas.{all_rows_empty}
use Rattle.tabled_kept.proofs.table.Table.clear.Goals as goal

pub returns : goal.returns
returns g c = all_rows_empty c.clear_all.new.rows.items c.clear_all.ensures

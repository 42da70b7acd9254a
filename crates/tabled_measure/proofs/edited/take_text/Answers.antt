-- The text that stood there is gone.
use Rattle.std.proofs.Common.{map, string_bytes, ap, ◌∙◌}
use Rattle.tabled_rows.proofs.RowLemmas.{remove-map}
use Rattle.tabled_measure.proofs.edited.take_text.Goals as goal

pub returns-clause-rest : goal.returns-clause-rest
returns-clause-rest c = ap (map string_bytes) c.remove.ensures.items ∙ remove-map string_bytes c.args.row.now.items c.args.index

-- Past the end nothing is taken.
use Rattle.std.proofs.Common.{map, string_bytes, ap, ◌∙◌}
use Rattle.tabled_rows.proofs.RowLemmas.{remove-map}
use Rattle.tabled_rows.proofs.columns.take_text.Goals as goal

pub returns : goal.returns
returns c = ap (map string_bytes) c.remove.ensures.items ∙ remove-map string_bytes c.args.row.now.items c.args.index

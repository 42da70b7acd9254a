-- The cells of the first rows are the first of all.
use Rattle.std.proofs.Common.{sym, ap, ◌∙◌}
use Rattle.std.proofs.lemmas.List.{take-map}
use Rattle.tabled_input.specs.Lines.{cells_of}
use Rattle.tabled_input.proofs.selection.head.Goals as goal

pub returns : goal.returns
returns c = ap cells_of c.truncate.ensures.items ∙ sym (take-map _ c.args.count c.args.rows.now.items)

-- At the end all parts were cut off.
use Rattle.std.proofs.Common.{map, ap, lit<, ◌∙◌}
use Rattle.std.proofs.lemmas.Iterator.Consumers.{YieldsList-end}
use Rattle.std.proofs.lemmas.Iterator.Splits.{YieldsList-from_str_split}
use Rattle.tabled_request.specs.Cells.{cells_of}
use Rattle.tabled_request.proofs.cells.named_cells.Goals as goal

pub returns : goal.returns
returns c =
    c.loop-part.invariant
    ∙ ap (map cells_of)
    (YieldsList-end (YieldsList-from_str_split 44 c.args.word.now (lit< tt) (cc) (cc) (cc)) c.loop-part.yielded _ c.loop-part.yielded_by _ _ c.in-None.is c.next.ensures.steps).0
